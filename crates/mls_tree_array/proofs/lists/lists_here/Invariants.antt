use Rattle.std.proofs.Common.{◌≡◌, drop}
use Rattle.std.specs.List.{list_all}
use Rattle.mls_tree_model.specs.Lists.{may_be_listed}
use Rattle.mls_tree_array.proofs.lists.lists_here.Given as goal

abbrev pub invariant-loop-leaf : goal.invariant-loop-leaf
invariant-loop-leaf l =
    list_all (may_be_listed l.left.first l.left.term l.right.term) (drop l.leaf-index l.leaf-items)
    ≡ list_all (may_be_listed l.left.first l.left.term l.right.term) l.parent.unmerged_leaves
