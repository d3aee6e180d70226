-- The next public state of a commit that a good member found to pass.
use Rattle.std.proofs.Common.{◌≡◌, ℕ, ◌+◌, true, List, Option, Some, None, refl, sym, ap, ap₂, subst, ◌∙◌}
use Rattle.std.specs.List.{AllByRecursion}
use Rattle.std.proofs.lemmas.Slice.Eq.{bytes_eq-Decides}
use Rattle.mls_leaf.specs.Leaf.{leaf_node}
use Rattle.mls_leaf.specs.declared.leaf.LeafNode.{LeafNode}
use Rattle.mls_tree_model.proofs.ClientLaws.{one_client}
use Rattle.mls_tree_model.specs.Good.{IsGood, has_distinct_clients}
use Rattle.mls_tree_model.specs.Keys.{members}
use Rattle.mls_tree_model.specs.Term.{Term, Leaf, Branch, width, leaf_of}
use Rattle.mls_tree.specs.Rules.{rules_of}
use Rattle.mls_model.specs.Join.{is_same_leaf, place_of}
use Rattle.mls_theorems.proofs.NextStates.{good_next, context_of_tree}
use Rattle.mls_theorems.proofs.Own.{used_have_passed}
use Rattle.mls_theorems.proofs.Clients.{is_member, stands_in}
use Rattle.mls_theorems.proofs.SpelledTrees.{parts_next, good_nodes_fit, context_next}
use Rattle.mls_theorems.specs.NodeSpelling.{LeafFits, PartsFit}
use Rattle.mls_theorems.proofs.Nodes.{parts_of}
use Rattle.mls_theorems.proofs.One.{IsOneOf, at_one, all_both, finds_one}
use Rattle.mls_theorems.proofs.Spelled.{one_spelled, list_of, path_of, used_fit}
use Rattle.mls_theorems.specs.NextStates.{NextStatesGood}

pub is_next : NextStatesGood
is_next c m i used x said signature change good there below fits uses h =
    let tree = good_next c m.public i used x said signature change good.tree (used_have_passed c m i x.proposals used good.kept uses) there h in
    let context = context_of_tree c m.public i used x said signature change h in
    let used_fits = used_fit c m i x.proposals used good.kept (list_of x fits) uses in
    let parts = parts_next c m.public i used x said signature change h used_fits (path_of x fits) (parts_of m.public.tree good.nodes) in
    record {
      good = subst (λ (g : List ℕ). IsGood (rules_of c g) change.tree) (sym context.1) tree;
      hash = context.0;
      suite = context.2 ∙ good.suite;
      context = context_next c m.public i used x said signature change h below used_fits good.context;
      parts = parts;
      nodes = good_nodes_fit c m.public change.tree tree parts;
    }

-- ---- a leaf is found where it stands

abbrev pub FitsAt : ℕ × LeafNode → Type 0
FitsAt q = leaf_node.Fits q.1

leaf_member : (b : ℕ) (v : Option LeafNode) → LeafFits v → AllByRecursion FitsAt (members b (Leaf v))
unfolding members
leaf_member b None h = tt
leaf_member b (Some x) h = (h, tt)

pub members_fit : (b : ℕ) (t : Term) → PartsFit t → AllByRecursion FitsAt (members b t)
unfolding members PartsFit
members_fit b (Leaf v) h = leaf_member b v h
members_fit b (Branch c l r) h = all_both FitsAt (members b l) (members (b + width l) r) (members_fit b l h.1.0) (members_fit (b + width l) r h.1.1)

pub place_found : (t : Term) (j : ℕ) (x : LeafNode) → has_distinct_clients t ≡ true → PartsFit t → leaf_node.Fits x → leaf_of t j ≡ Some x → place_of x t ≡ Some (j, x)
unfolding place_of
place_found t j x d parts fits is =
    let here : IsOneOf (j, x) (members 0 t) = is_member t j x is in
    finds_one (λ (q : ℕ × LeafNode). is_same_leaf q.1 x) (j, x) (members 0 t) here ((bytes_eq-Decides (leaf_node.spell x) (leaf_node.spell x)).1 refl)
    (λ q a same.
    let leaf : q.1 ≡ x = one_spelled leaf_node q.1 x (at_one FitsAt q (members 0 t) (members_fit 0 t parts) a) fits ((bytes_eq-Decides _ _).0 same) in
    ap₂ (λ (i : ℕ) (y : LeafNode). (i, y)) (one_client t q.0 j q.1 x d (stands_in t q a) is (ap (λ (y : LeafNode). y.signature_key) leaf)) leaf)
