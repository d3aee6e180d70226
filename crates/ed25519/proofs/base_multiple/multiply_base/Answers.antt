use Rattle.std.proofs.Common.{ℕ, ◌≡◌, ◌<◌, ◌+◌, ◌-◌, ◌*◌, ◌^◌, sym, ap, subst, ◌∙◌, rules, arith}
use Rattle.curve25519.specs.Curve25519.{base, multiple}
use Rattle.curve25519.proofs.Group.{multiple-zero}
use Rattle.curve25519.proofs.Curve25519.{curve, base_on}
use Rattle.field25519.specs.Bytes.{joined_words, joined}
use Rattle.ed25519.specs.Coordinates.{Represents}
use Rattle.ed25519.specs.Digits.{column}
use Rattle.ed25519.proofs.Columns.{level, lower, top, bottom}
use Rattle.ed25519.proofs.base_multiple.multiply_base.Goals as goal

pub loop-i-init : goal.loop-i-init
loop-i-init c = subst (Represents c.origin-sum.result) (sym (ap (multiple base) (top (joined c.args.scalar) 8) ∙ multiple-zero curve base)) c.origin-sum.ensures

pub loop-i-preserved : goal.loop-i-preserved
loop-i-preserved c =
    let n = joined c.args.scalar in
    let i = c.loop-i.i in
    subst (λ t. Represents c.add_column-sum.result (multiple base t))
    (ap (λ t. 4 * (4 * level n t 8) + column n (7 - i) 8) (next i c.loop-i-test.true) ∙ sym (lower n (7 - i) 8 (seven i)) ∙ ap (λ t. level n t 8) (last i))
    (c.add_column-sum.ensures (4 * (4 * level n (8 - i) 8))
    (c.quadruple-shifted.ensures base (4 * level n (8 - i) 8) base_on (c.quadruple.ensures base (level n (8 - i) 8) base_on c.loop-i.invariant)))
  where
    next : (i : ℕ) → i < 8 → 8 - i ≡ 7 - i + 1
    next i l = omega arith

    seven : (i : ℕ) → 7 - i < 8
    seven i = omega arith

    last : (i : ℕ) → 7 - i ≡ 8 - (i + 1)
    last i = omega arith

small : (a b c d : ℕ) → a < 2 ^ 64 → b < 2 ^ 64 → c < 2 ^ 64 → d < 2 ^ 64 → joined_words a b c d < 2 ^ 256
small a b c d la lb lc ld = omega arith

pub returns : goal.returns
returns c =
    let la : c.args.scalar.a < 2 ^ 64 = search rules in
    let lb : c.args.scalar.b < 2 ^ 64 = search rules in
    let lc : c.args.scalar.c < 2 ^ 64 = search rules in
    let ld : c.args.scalar.d < 2 ^ 64 = search rules in
    let e : ◌≡◌ {A = ℕ} c.loop-i.i 8 = omega (arith, c.loop-i-test.false, c.loop-i.auto.i-end) in
    subst (λ t. Represents c.loop-i.sum (multiple base t)) (ap (λ t. level (joined c.args.scalar) (8 - t) 8) e ∙ bottom (joined c.args.scalar) (small _ _ _ _ la lb lc ld)) c.loop-i.invariant
