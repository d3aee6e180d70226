use Rattle.std.proofs.Common.{◌≡◌, drop}
use Rattle.mls_tree_array.specs.Witnesses.{numbers_in, first_outside}
use Rattle.mls_tree_array.proofs.witnesses.first_outside.Given as goal

abbrev pub invariant-loop-node : goal.invariant-loop-node
invariant-loop-node l =
    first_outside (numbers_in l.first l.end l.leaves) (drop l.node-index l.nodes) ≡ first_outside (numbers_in l.first l.end l.leaves) l.nodes
