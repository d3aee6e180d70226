use Rattle.std.proofs.Common.{arith}
use Rattle.mls_treekem.proofs.Opening.{keys_none, keys_more, same_height}
use Rattle.mls_treekem.proofs.private_path.PrivatePath.keys_up_to.Goals as goal

pub loop-i-init : goal.loop-i-init
loop-i-init c = keys_none c.args.self.now c.in_ok-above.above.items c.in_ok-above.ensures.items

pub loop-i-preserved : goal.loop-i-preserved
loop-i-preserved c =
    keys_more c.loop-i.i c.args.self.now c.loop-i.above.items c.push.new.self.items c.key_at.result c.loop-i.invariant c.key_at.ensures c.in_ok-push.ensures.items

pub returns : goal.returns
returns c = same_height c.loop-i.i c.args.height c.args.self.now c.loop-i.above.items (omega arith) c.loop-i.invariant
