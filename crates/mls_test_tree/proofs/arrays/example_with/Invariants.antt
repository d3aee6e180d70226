use Rattle.std.proofs.Common.{◌≡◌, vec_len}
use Rattle.mls_test_tree.proofs.arrays.example_with.Given as goal

abbrev pub invariant-loop-x : goal.invariant-loop-x
invariant-loop-x l = vec_len l.nodes ≡ l.x
