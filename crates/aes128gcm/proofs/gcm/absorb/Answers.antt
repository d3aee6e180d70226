use Rattle.std.proofs.Common.{arith, rules}
use Rattle.aes128gcm.specs.Gcm.{pad}
use Rattle.aes128gcm.proofs.GhashLemmas.{absorb_none, absorb_more, absorb_all, cut-part}
use Rattle.aes128gcm.proofs.gcm.absorb.Goals as goal

pub loop-i-init : goal.loop-i-init
loop-i-init c = record { state = absorb_none c.args.h.now c.args.from (pad c.args.bytes.now); count = search rules }

pub loop-i-preserved : goal.loop-i-preserved
loop-i-preserved c = record {
  state = absorb_more c.args.h.now c.args.from c.loop-i.y c.multiply-y.result c.block_number.result c.loop-i.i c.args.bytes.now _ (omega arith)
      c.loop-i.invariant.state (cut-part c.args.bytes.now c.loop-i.i c.min-end.result (omega arith) c.min-end.ensures) c.block_number.ensures c.multiply-y.ensures.product;
  count = c.multiply-y.ensures.count;
}

pub returns : goal.returns
returns c = absorb_all c.args.h.now c.args.from c.loop-i.y c.loop-i.i c.args.bytes.now (omega arith) c.loop-i.invariant.state
