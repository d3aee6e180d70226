-- A tree of one leaf.
use Rattle.std.proofs.Common.{◌≡◌, List, [], ◌∷◌, Option, Some, sym, subst}
use Rattle.mls_leaf.specs.declared.leaf.LeafNode.{LeafNode}
use Rattle.mls_leaf.specs.declared.node.Node.{Node}
use Rattle.mls_tree_model.specs.Term.{Leaf}
use Rattle.mls_tree_model.specs.Arrays.{leaf_cell}
use Rattle.mls_tree_array.specs.StandingLaws.{StandsFor}
use Rattle.mls_tree_array.proofs.StandingLaws.{stands_for-leaf}

pub single_stands : (x : LeafNode) (ys : List (Option Node)) → ys ≡ leaf_cell (Some x) ∷ [] → StandsFor 0 ys (Leaf (Some x))
single_stands x ys is = subst (λ zs. StandsFor 0 zs (Leaf (Some x))) (sym is) (stands_for-leaf (Some x))
