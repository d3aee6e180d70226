use Rattle.std.proofs.Common.{arith}
use Rattle.mls_treemath.specs.Paths.{nodes_in}
use Rattle.mls_test_tree.proofs.arrays.example_with.Goals as goal

pub returns : goal.returns
unfolding nodes_in
returns c = omega arith
