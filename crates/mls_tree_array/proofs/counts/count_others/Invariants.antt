use Rattle.std.proofs.Common.{◌≡◌, ◌+◌, ◌≤◌, length, drop}
use Rattle.mls_tree_model.specs.Sets.{less, leaf_numbers}
use Rattle.mls_tree_array.proofs.counts.count_others.Given as goal

abbrev pub invariant-loop-leaf : goal.invariant-loop-leaf
invariant-loop-leaf l =
    (l.count ≤ l.leaf-index) × (l.count + length (less (leaf_numbers l.added) (leaf_numbers (drop l.leaf-index l.leaves))) ≡ length (less (leaf_numbers l.added) (leaf_numbers l.leaves)))
