use Rattle.std.proofs.Common.{◌≡◌, ◌+◌, ◌-◌, ◌/◌, length}
use Rattle.mls_checks.specs.Leaf.{is_capable}
use Rattle.mls_tree_model.specs.Term.{leaf_of}
use Rattle.mls_tree_model.specs.Keys.{all_members}
use Rattle.mls_tree_model.specs.Arrays.{term_of}
use Rattle.mls_tree.proofs.Passing.{rest}
use Rattle.mls_tree.proofs.checking.are_all_capable.Given as goal

abbrev pub invariant-loop-i : goal.invariant-loop-i
invariant-loop-i l =
    rest (λ j x. is_capable l.suite x) (leaf_of (term_of l.height l.cells.nodes)) l.i (length l.cells.nodes / 2 + 1 - l.i)
    ≡ all_members (λ j x. is_capable l.suite x) 0 (term_of l.height l.cells.nodes)
