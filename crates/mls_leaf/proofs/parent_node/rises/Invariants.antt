use Rattle.std.proofs.Common.{◌≡◌, drop}
use Rattle.mls_leaf.specs.Parent.{rises_from}
use Rattle.mls_leaf.proofs.parent_node.rises.Given as goal

abbrev pub invariant-loop-entry : goal.invariant-loop-entry
invariant-loop-entry l = rises_from l.least (drop l.entry-index l.entries) ≡ rises_from 0 l.entries
