use Rattle.std.proofs.Common.{arith}
use Rattle.mls_model.specs.EventRange.{IsInRange}
use Rattle.mls_world.proofs.Ranging.{all_step, all_end}
use Rattle.mls_world.proofs.ranges.know_events.Goals as goal

pub loop-event-preserved : goal.loop-event-preserved
loop-event-preserved c = all_step IsInRange c.args.events.now c.loop-event.event-index c.event-item.result (omega arith) c.event-item.is c.know_event.ensures c.loop-event.invariant

pub returns : goal.returns
returns c = all_end IsInRange c.args.events.now c.loop-event.event-index (omega arith) c.loop-event.invariant
