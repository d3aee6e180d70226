use Rattle.std.proofs.Common.{◌≡◌, ◌++◌, take}
use Rattle.mls_tree_model.specs.Sets.{leaf_numbers}
use Rattle.mls_tree_array.proofs.resolutions.push_unmerged.Given as goal

abbrev pub invariant-loop-leaf : goal.invariant-loop-leaf
invariant-loop-leaf l = l.out.items ≡ l.initial.out.items ++ leaf_numbers (take l.leaf-index l.leaf-items)
