use Rattle.std.proofs.Common.{arith, rules}
use Rattle.hpke.specs.Rfc9180.{is_zero}
use Rattle.hpke.proofs.ZeroLemmas.{fold_none, fold_more, zero_bytes}
use Rattle.hpke.proofs.kem.is_zero.Goals as goal

pub loop-i-init : goal.loop-i-init
loop-i-init c = fold_none c.args.bytes.now

pub loop-i-preserved : goal.loop-i-preserved
loop-i-preserved c = fold_more c.args.bytes.now c.loop-i.i c.loop-i.ones c.loop-i.invariant

pub returns : goal.returns
unfolding is_zero
returns c = zero_bytes c.args.bytes.now c.loop-i.ones c.loop-i.i (search rules) (omega arith) c.loop-i.invariant
