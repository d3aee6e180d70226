use Rattle.std.proofs.Common.{arith, sym, ◌∙◌, ap}
use Rattle.std.proofs.lemmas.List.{take_all}
use Rattle.mls_private_message.specs.Keys.{xor_front, guarded_nonce}
use Rattle.mls_private_message.proofs.Guards.{xor_nothing, xor_more}
use Rattle.mls_private_message.proofs.keys.guarded_nonce.Goals as goal

pub loop-i-init : goal.loop-i-init
loop-i-init c = sym (xor_nothing c.args.nonce.now)

pub loop-i-preserved : goal.loop-i-preserved
loop-i-preserved c = xor_more c.args.nonce.now c.to_be_bytes-guard.result c.loop-i.guarded c.loop-i.i (omega arith) (omega arith) c.loop-i.invariant

pub returns : goal.returns
unfolding guarded_nonce
returns c =
    c.loop-i.invariant
    ∙ ap (xor_front c.args.nonce.now) (take_all c.loop-i.i c.to_be_bytes-guard.result (omega arith) ∙ c.to_be_bytes-guard.ensures)
