use Rattle.std.proofs.Common.{◌≡◌, not, drop}
use Rattle.std.specs.List.{list_all}
use Rattle.mls_tree_model.specs.Sets.{has}
use Rattle.mls_tree_array.proofs.originals.are_disjoint.Given as goal

abbrev pub invariant-loop-leaf : goal.invariant-loop-leaf
invariant-loop-leaf l =
    list_all (λ u. not (has l.unmerged u)) (drop l.leaf-index l.leaves) ≡ list_all (λ u. not (has l.unmerged u)) l.leaves
