use Rattle.std.proofs.Common.{drop}
use Rattle.std.specs.List.{AllByRecursion}
use Rattle.mls_model.specs.EventRange.{IsItemInRange}
use Rattle.mls_world.proofs.ranges.know_items.Given as goal

abbrev pub invariant-loop-item : goal.invariant-loop-item
invariant-loop-item l = AllByRecursion IsItemInRange (drop l.item-index l.items) → AllByRecursion IsItemInRange l.items
