use Rattle.std.proofs.Common.{◌≡◌, true, drop}
use Rattle.mls_tree_model.specs.Arrays.{alternates}
use Rattle.mls_tree_array.proofs.order.alternates.Given as goal

abbrev pub invariant-loop-node : goal.invariant-loop-node
invariant-loop-node l = alternates l.even (drop l.node-index l.nodes) ≡ alternates true l.nodes
