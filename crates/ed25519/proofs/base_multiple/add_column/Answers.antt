use Rattle.std.proofs.Common.{ℕ, ◌≡◌, ◌<◌, ◌+◌, ◌*◌, ◌^◌, sym, ap, subst, ◌∙◌, arith}
use Rattle.curve25519.specs.Curve25519.{base, multiple}
use Rattle.curve25519.proofs.Group.{multiple_on, multiples_add}
use Rattle.curve25519.proofs.Curve25519.{curve, base_on}
use Rattle.field25519.specs.Bytes.{joined}
use Rattle.ed25519.specs.Coordinates.{Represents}
use Rattle.ed25519.specs.Digits.{digit, column}
use Rattle.ed25519.specs.Rows.{row_of, IsRowOf}
use Rattle.ed25519.proofs.Columns.{column-zero, column-suc}
use Rattle.ed25519.proofs.Table.{multiples_are}
use Rattle.ed25519.proofs.base_multiple.add_column.Goals as goal

pub loop-j-init : goal.loop-j-init
loop-j-init c = λ m rep.
    subst (λ t. Represents c.args.point (multiple base t)) (sym (ap (λ t. m + t) (column-zero (joined c.args.scalar) c.args.at) ∙ none m)) rep
  where
    none : (m : ℕ) → m + 0 ≡ m
    none m = omega arith

pub loop-j-preserved : goal.loop-j-preserved
loop-j-preserved c = λ m rep.
    let n = joined c.args.scalar in
    let j = c.loop-j.j in
    let k = digit n (8 * j + c.args.at) in
    let low : k < 16 = subst (λ t. t < 16) c.digit_at-digit.ensures.is c.digit_at-digit.ensures.low in
    let row : IsRowOf c.read_row-row.result (multiple base (k * 16 ^ (8 * j))) =
    subst (λ r. IsRowOf r (multiple base (k * 16 ^ (8 * j)))) (sym (c.read_row-row.ensures ∙ ap (row_of _) c.digit_at-digit.ensures.is)) (multiples_are j k c.loop-j-test.true low) in
    subst (λ t. Represents c.add-sum.result (multiple base t)) (joins m (column n c.args.at j) (k * 16 ^ (8 * j)) ∙ ap (λ t. m + t) (sym (column-suc n c.args.at j)))
    (subst (Represents c.add-sum.result) (multiples_add curve base base_on (k * 16 ^ (8 * j)) (m + column n c.args.at j))
    (c.add-sum.ensures (multiple base (m + column n c.args.at j)) (multiple base (k * 16 ^ (8 * j)))
    (multiple_on curve base base_on (m + column n c.args.at j)) (multiple_on curve base base_on (k * 16 ^ (8 * j)))
    (c.loop-j.invariant m rep) (c.cached_row.ensures (multiple base (k * 16 ^ (8 * j))) row)))
  where
    joins : (m c w : ℕ) → w + (m + c) ≡ m + (c + w)
    joins m c w = omega arith

pub returns : goal.returns
returns c =
    let e : ◌≡◌ {A = ℕ} c.loop-j.j 8 = omega (arith, c.loop-j-test.false, c.loop-j.auto.j-end) in
    λ m rep. subst (λ t. Represents c.loop-j.sum (multiple base (m + column (joined c.args.scalar) c.args.at t))) e (c.loop-j.invariant m rep)
