use Rattle.mls_treemath.specs.Descent.{HoldsBoth}
use Rattle.mls_treemath.proofs.find_common_ancestor.Given as goal

abbrev pub invariant-loop-below : goal.invariant-loop-below
invariant-loop-below l = HoldsBoth l.n l.x l.y l.below l.node
