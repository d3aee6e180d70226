use Rattle.std.proofs.Common.{ℕ, ◌≡◌, ◌<◌, ◌-◌, ◌*◌, ◌/◌, ◌^◌, sym, subst, rules, arith}
use Rattle.curve25519.specs.Curve25519.{multiple}
use Rattle.field25519.specs.Bytes.{joined_words, joined}
use Rattle.ed25519.specs.Coordinates.{Represents}
use Rattle.ed25519.proofs.Steps.{upper, starts, ends}
use Rattle.ed25519.proofs.point_multiple.multiply_point.Goals as goal

small : (a b c d : ℕ) → a < 2 ^ 64 → b < 2 ^ 64 → c < 2 ^ 64 → d < 2 ^ 64 → joined_words a b c d < 2 ^ 256
small a b c d la lb lc ld = omega arith

pub loop-i-init : goal.loop-i-init
loop-i-init c =
    let la : c.args.scalar.a < 2 ^ 64 = search rules in
    let lb : c.args.scalar.b < 2 ^ 64 = search rules in
    let lc : c.args.scalar.c < 2 ^ 64 = search rules in
    let ld : c.args.scalar.d < 2 ^ 64 = search rules in
    λ q on rep. subst (Represents c.origin-sum.result) (sym (starts q (joined c.args.scalar) (small _ _ _ _ la lb lc ld))) c.origin-sum.ensures

pub loop-i-preserved : goal.loop-i-preserved
loop-i-preserved c = λ q on rep.
    let n = joined c.args.scalar in
    let m = n / 4 ^ (128 - c.loop-i.i) in
    subst (λ t. Represents c.add_to-sum.result (multiple q t)) (upper n c.loop-i.i _ _ c.loop-i-test.true c.bit_at-high.ensures.bit c.bit_at-low.ensures.bit)
    (c.add_to-sum.ensures q (4 * m) on (c.new-multiples.ensures q on rep)
    (c.quadruple.ensures q m on (c.loop-i.invariant q on rep)))

pub returns : goal.returns
returns c = λ q on rep.
    let e : ◌≡◌ {A = ℕ} c.loop-i.i 128 = omega (arith, c.loop-i-test.false, c.loop-i.auto.i-end) in
    subst (λ t. Represents c.loop-i.sum (multiple q t)) (ends (joined c.args.scalar) c.loop-i.i e) (c.loop-i.invariant q on rep)
