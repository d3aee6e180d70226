use Rattle.std.proofs.Common.{arith}
use Rattle.mls_model.specs.EventRange.{IsItemInRange}
use Rattle.mls_world.proofs.Ranging.{all_step, all_end}
use Rattle.mls_world.proofs.ranges.know_items.Goals as goal

pub loop-item-preserved : goal.loop-item-preserved
loop-item-preserved c = all_step IsItemInRange c.args.items.now c.loop-item.item-index c.item-item.result (omega arith) c.item-item.is c.know_item.ensures c.loop-item.invariant

pub returns : goal.returns
returns c = all_end IsItemInRange c.args.items.now c.loop-item.item-index (omega arith) c.loop-item.invariant
