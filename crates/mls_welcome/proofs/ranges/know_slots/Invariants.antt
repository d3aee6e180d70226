use Rattle.std.proofs.Common.{drop}
use Rattle.std.specs.List.{AllByRecursion}
use Rattle.mls_wire.specs.Combine.{optional}
use Rattle.mls_leaf.specs.Node.{node}
use Rattle.mls_public_group.specs.MessageLimit.{FitsIfShort}
use Rattle.mls_welcome.proofs.ranges.know_slots.Given as goal

abbrev pub invariant-loop-slot : goal.invariant-loop-slot
invariant-loop-slot l = AllByRecursion (FitsIfShort (optional node)) (drop l.slot-index l.slots) → AllByRecursion (FitsIfShort (optional node)) l.slots
