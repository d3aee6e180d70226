use Rattle.std.proofs.Common.{arith, sym, ◌∙◌}
use Rattle.aes128gcm.proofs.Streams.{xor_with-nil, xor_with-take_more, xor_with-take_all}
use Rattle.aes128gcm.proofs.keys.xor_into.Goals as goal

pub loop-i-init : goal.loop-i-init
loop-i-init c = sym (xor_with-nil c.args.bytes.now)

pub loop-i-preserved : goal.loop-i-preserved
loop-i-preserved c = xor_with-take_more c.args.bytes.now c.args.with.now c.loop-i.bytes c.loop-i.i (omega arith) (omega arith) c.loop-i.invariant

pub returns : goal.returns
returns c = c.loop-i.invariant ∙ xor_with-take_all c.args.bytes.now c.args.with.now c.loop-i.i (omega arith)
