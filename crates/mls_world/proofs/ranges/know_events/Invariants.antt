use Rattle.std.proofs.Common.{drop}
use Rattle.std.specs.List.{AllByRecursion}
use Rattle.mls_model.specs.EventRange.{IsInRange}
use Rattle.mls_world.proofs.ranges.know_events.Given as goal

abbrev pub invariant-loop-event : goal.invariant-loop-event
invariant-loop-event l = AllByRecursion IsInRange (drop l.event-index l.events) → AllByRecursion IsInRange l.events
