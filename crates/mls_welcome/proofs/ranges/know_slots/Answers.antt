use Rattle.std.proofs.Common.{arith}
use Rattle.mls_wire.specs.Combine.{optional}
use Rattle.mls_leaf.specs.Node.{node}
use Rattle.mls_public_group.specs.MessageLimit.{FitsIfShort}
use Rattle.mls_welcome.proofs.Fitting.{all_step, all_end}
use Rattle.mls_welcome.proofs.ranges.know_slots.Goals as goal

pub loop-slot-preserved : goal.loop-slot-preserved
loop-slot-preserved c = all_step (FitsIfShort (optional node)) c.args.slots.now c.loop-slot.slot-index c.slot-item.result (omega arith) c.slot-item.is c.know_slot.ensures c.loop-slot.invariant

pub returns : goal.returns
returns c = all_end (FitsIfShort (optional node)) c.args.slots.now c.loop-slot.slot-index (omega arith) c.loop-slot.invariant
