-- The leaves of a tree with a path are as short as those of the tree and the new one.
use Rattle.std.proofs.Common.{◌≡◌, ℕ, List, Ok, sym, subst}
use Rattle.mls_leaf.specs.Leaf.{leaf_node}
use Rattle.mls_leaf.specs.declared.leaf.LeafNode.{LeafNode}
use Rattle.mls_tree_model.specs.Term.{Term}
use Rattle.mls_tree.specs.Paths.{merge_answer}
use Rattle.mls_public_group.specs.Short.{IsBelow, HasLeavesBelow}
use Rattle.mls_public_group.proofs.Leaves.{below_merge_path}
use Rattle.mls_update_path.proofs.Merges.{merge_is}

pub leaves_below : (n : ℕ) (t : Term) (i : ℕ) (x : LeafNode) (keys : List (List ℕ)) (u : Term) → merge_answer t i x keys ≡ Ok u → HasLeavesBelow n t → IsBelow n leaf_node x → HasLeavesBelow n u
leaves_below n t i x keys u e has below = subst (HasLeavesBelow n) (sym (merge_is t i x keys u e)) (below_merge_path n t i x keys below has)
