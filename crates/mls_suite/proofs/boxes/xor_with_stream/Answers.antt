use Rattle.std.proofs.Common.{◌≡◌, ℕ, List, length, arith, sym, ap, ◌∙◌}
use Rattle.std.specs.Int.{div_ceil}
use Rattle.mls_suite.specs.Glass.{xor_with, stream_blocks, xor_with_stream}
use Rattle.mls_suite.proofs.Streams.{xor_with-nil, stream_more}
use Rattle.mls_suite.proofs.boxes.xor_with_stream.Goals as goal

pub loop-i-init : goal.loop-i-init
unfolding stream_blocks
loop-i-init c = sym (xor_with-nil c.args.text.now)

pub loop-i-preserved : goal.loop-i-preserved
loop-i-preserved c =
    stream_more c.args.key.now c.args.text.now c.loop-i.text c.stream_block.result c.xor_block_at.new.bytes c.loop-i.i c.loop-i.invariant c.stream_block.ensures c.xor_block_at.ensures

all_streamed : (key text now : List ℕ) (i : ℕ) → now ≡ xor_with text (stream_blocks key i) → i ≡ div_ceil (length text) 32 → now ≡ xor_with_stream key text
unfolding xor_with_stream
all_streamed key text now i e n = e ∙ ap (λ k. xor_with text (stream_blocks key k)) n

pub returns : goal.returns
returns c = all_streamed c.args.key.now c.args.text.now c.loop-i.text c.loop-i.i c.loop-i.invariant (omega arith)
