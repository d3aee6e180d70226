-- Members in one public state with different signature keys stand at different leaves.
use Rattle.std.proofs.Common.{◌≡◌, Some, ap, ap₂, sym, ◌∙◌}
use Rattle.mls_leaf.specs.declared.leaf.LeafNode.{LeafNode}
use Rattle.mls_tree_model.specs.Term.{leaf_of}
use Rattle.mls_model.specs.PublicState.{PublicState}
use Rattle.mls_theorems.proofs.Lists.{one_there}
use Rattle.mls_theorems.specs.OwnLeaves.{OwnLeaves}

pub own_leaves : OwnLeaves
own_leaves c m n a b same apart leaf =
    let there : leaf_of m.public.tree m.keys.leaf ≡ Some b.own = ap₂ leaf_of (ap (λ (p : PublicState). p.tree) same) leaf ∙ b.is_own in
    let one : a.own ≡ b.own = one_there (leaf_of m.public.tree m.keys.leaf) a.own b.own a.is_own there in
    apart (sym a.signing ∙ ap (λ (x : LeafNode). x.signature_key) one ∙ b.signing)
