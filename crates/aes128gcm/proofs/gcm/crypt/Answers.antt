use Rattle.std.proofs.Common.{◌*◌, [], get_or, arith, rules, sym}
use Rattle.aes128gcm.specs.Gcm.{key_stream}
use Rattle.aes128gcm.proofs.Streams.{xor_with-nil}
use Rattle.aes128gcm.proofs.GcmStreams.{stream_four, all_streamed}
use Rattle.aes128gcm.proofs.gcm.crypt.Goals as goal

pub loop-i-init : goal.loop-i-init
unfolding key_stream
loop-i-init c = sym (xor_with-nil c.args.text.now)

pub loop-i-preserved : goal.loop-i-preserved
loop-i-preserved c =
    let r = c.stream_blocks.ensures in
    let b = c.stream_blocks.result in
    stream_four c.args.key.now c.args.nonce.now c.args.text.now c.loop-i.text c.xor_at.new.bytes c.xor_at-in-loop-i.new.bytes c.xor_at-in-loop-i-2.new.bytes c.xor_at-in-loop-i-3.new.bytes
    (get_or b 0 []) (get_or b 1 []) (get_or b 2 []) (get_or b 3 []) c.loop-i.i (search rules) c.loop-i.invariant r.first r.second r.third r.fourth
    c.xor_at.ensures c.xor_at-in-loop-i.ensures c.xor_at-in-loop-i-2.ensures c.xor_at-in-loop-i-3.ensures

pub returns : goal.returns
returns c = all_streamed c.args.key.now c.args.nonce.now c.args.text.now c.loop-i.text (4 * c.loop-i.i) c.loop-i.invariant (omega arith) (omega arith)
