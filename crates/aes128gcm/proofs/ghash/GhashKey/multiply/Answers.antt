use Rattle.std.proofs.Common.{ℕ, ◌+◌, ◌-◌, ◌/◌, ◌%◌, ◌^◌, get_or, arith, rules, refl, ap, ◌∙◌}
use Rattle.std.specs.Prelude.{bit_and}
use Rattle.aes128gcm.specs.Gcm.{multiple}
use Rattle.aes128gcm.proofs.TableLemmas.{multiples_sum_none, multiples_sum_next, multiples_sum_all, words_joined, under_copies}
use Rattle.aes128gcm.proofs.ghash.GhashKey.multiply.Goals as goal

pub loop-i-init : goal.loop-i-init
loop-i-init c = multiples_sum_none c.args.x c.args.self.now

pub loop-i-preserved : goal.loop-i-preserved
loop-i-preserved c =
    let i = c.loop-i.i in
    let bit : ℕ = c.args.x / 2 ^ (127 - c.loop-i.i) in
    let hi : ℕ = get_or c.self.inside.high c.loop-i.i 0 in
    let lo : ℕ = get_or c.self.inside.low c.loop-i.i 0 in
    let mask : ℕ = get_or c.spread.new.copies c.loop-i.i 0 in
    multiples_sum_next c.args.x c.args.self.now i (i + 1) (bit_and mask hi) (bit_and mask lo) bit c.loop-i.high c.loop-i.low hi lo (search rules) (search rules)
    (under_copies (bit % 2) mask hi (c.spread.ensures.bits i (omega arith)) (omega arith) (search rules))
    (under_copies (bit % 2) mask lo (c.spread.ensures.bits i (omega arith)) (omega arith) (search rules))
    refl (c.self.invariant i (omega arith) ∙ ap (λ z. multiple z i) c.self.view_is) c.loop-i.invariant (omega arith)

pub returns-clause-product : goal.returns-clause-product
returns-clause-product c =
    multiples_sum_all c.args.x c.args.self.now c.loop-i.i _ (omega arith)
    (words_joined c.loop-i.high c.loop-i.low (search rules) (search rules) ∙ c.loop-i.invariant)
