use Rattle.std.proofs.Common.{◌≡◌, ◌+◌, ◌-◌, ◌/◌, length}
use Rattle.mls_checks.specs.Leaf.{is_signed}
use Rattle.mls_tree_model.specs.Term.{leaf_of}
use Rattle.mls_tree_model.specs.Keys.{all_members}
use Rattle.mls_tree_model.specs.Arrays.{term_of}
use Rattle.mls_tree.proofs.Passing.{rest}
use Rattle.mls_tree.proofs.checking.are_all_signed.Given as goal

abbrev pub invariant-loop-i : goal.invariant-loop-i
invariant-loop-i g l =
    rest (is_signed g.S.Suite.crypto l.group_id) (leaf_of (term_of l.height l.cells.nodes)) l.i (length l.cells.nodes / 2 + 1 - l.i)
    ≡ all_members (is_signed g.S.Suite.crypto l.group_id) 0 (term_of l.height l.cells.nodes)
