use Rattle.std.proofs.Common.{[], get_or, arith, sym, subst}
use Rattle.aes128gcm.specs.Aes.{round_key}
use Rattle.aes128gcm.specs.Lanes.{Holds}
use Rattle.aes128gcm.proofs.LoadLemmas.{held-is}
use Rattle.aes128gcm.proofs.keys.Aes128.new.Goals as goal

pub invariant_of-result : goal.invariant_of-result
unfolding round_key
invariant_of-result c b i d hb h =
    subst (λ k. Holds (get_or c.expand_key.result i d) b (round_key k i)) (sym (held-is (get_or c.expand_key.result 0 []) c.args.key.now (c.expand_key.ensures 0 0 [] (omega arith) (omega arith))))
    (c.expand_key.ensures b i d hb h)

pub returns : goal.returns
unfolding round_key
returns c = held-is (get_or c.expand_key.result 0 []) c.args.key.now (c.expand_key.ensures 0 0 [] (omega arith) (omega arith))
