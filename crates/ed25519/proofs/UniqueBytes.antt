-- No other bytes decode to a point than its own.
use Rattle.std.specs.Prelude.{ℕ, ◌≡◌, ◌+◌, ◌-◌, ◌*◌, ◌/◌, ◌%◌, ◌^◌, ◌<◌, Bool, true, false, List, Some, None, cond, nat_lt, ◌==◌, length, refl}
use Rattle.std.proofs.Common.{sym, ap, ◌∙◌, subst, mod-eq_of_lt, arith}
use Rattle.std.proofs.lemmas.Bool.{eqb-true, eqb-false, ltb-true}
use Rattle.std.proofs.lemmas.Option.{same_Some, none-some}
use Rattle.curve25519.specs.Field25519.{prime, field, residue, least}
use Rattle.curve25519.specs.Curve25519.{Point, On}
use Rattle.curve25519.proofs.Field25519.{least_residue, least_below}
use Rattle.field25519.specs.Bytes.{decode_little, encode, AreBytes}
use Rattle.field25519.proofs.Encoding.{decoded_below, encode-decode_little}
use Rattle.ed25519.specs.Points.{same, encode_point, decode_point, square_root, x_squared, choose_sign, with_y}
use Rattle.ed25519.proofs.RoundTrip.{least_neg}
use Rattle.ed25519.proofs.Opposite.{negative_on}
use Rattle.ed25519.proofs.Branches.{on_of_square, same_is}
open field use {Of, mul, neg}

-- ---- the point's number

abbrev number : Point → ℕ
number q = least q.1 + 2 ^ 255 * (least q.0 % 2)

abbrev Comes : Point → ℕ → Type 0
Comes q n = On q × (number q ≡ n)

chosen : (x y : Of) (s : ℕ) (q : Point) → s < 2 → On (x, y) → choose_sign x y s ≡ Some q → Comes q (least y + 2 ^ 255 * s)
chosen x y s q low on e = go (least x % 2 == s) refl (least x == 0) refl e
  where
    turned : (a b s : ℕ) → a < prime → (a ≡ 0 → ⊥) → b ≡ prime - a → s < 2 → (a % 2 ≡ s → ⊥) → b % 2 ≡ s
    turned a b s l z e low h = omega arith

    go : (t : Bool) → (least x % 2 == s) ≡ t → (z : Bool) → (least x == 0) ≡ z → cond t (Some (x, y)) (cond z None (Some (neg x, y))) ≡ Some q → Comes q (least y + 2 ^ 255 * s)
    go true ht z hz e = (
      subst (On) (same_Some (x, y) q e) on,
      ap number (sym (same_Some (x, y) q e)) ∙ ap (λ k. least y + 2 ^ 255 * k) (eqb-true (least x % 2) s ht),
    )
    go false ht true hz e = absurd (none-some q e)
    go false ht false hz e = (
      subst (On) (same_Some (neg x, y) q e) (negative_on (x, y) on),
      ap number (sym (same_Some (neg x, y) q e))
          ∙ ap (λ k. least y + 2 ^ 255 * k)
          (turned (least x) (least (neg x)) s (least_below x) (eqb-false (least x) 0 hz) (least_neg x (eqb-false (least x) 0 hz)) low (eqb-false (least x % 2) s ht)),
    )

height : (y : Of) (s : ℕ) (q : Point) → s < 2 → with_y y s ≡ Some q → Comes q (least y + 2 ^ 255 * s)
height y s q low e = go (same (mul (square_root (x_squared y)) (square_root (x_squared y))) (x_squared y)) refl e
  where
    go : (t : Bool) → same (mul (square_root (x_squared y)) (square_root (x_squared y))) (x_squared y) ≡ t → cond t (choose_sign (square_root (x_squared y)) y s) None ≡ Some q
        → Comes q (least y + 2 ^ 255 * s)
    go true h e = chosen (square_root (x_squared y)) y s q low (on_of_square (square_root (x_squared y)) y (same_is (mul (square_root (x_squared y)) (square_root (x_squared y))) (x_squared y) h)) e
    go false h e = absurd (none-some q e)

numbered : (n : ℕ) (q : Point) → n < 2 ^ 256 → cond (nat_lt (n % 2 ^ 255) prime) (with_y (residue (n % 2 ^ 255)) (n / 2 ^ 255)) None ≡ Some q → Comes q n
numbered n q low e = go (nat_lt (n % 2 ^ 255) prime) refl e
  where
    side : (n : ℕ) → n < 2 ^ 256 → n / 2 ^ 255 < 2
    side n l = omega arith

    whole : (n : ℕ) → n % 2 ^ 255 + 2 ^ 255 * (n / 2 ^ 255) ≡ n
    whole n = omega arith

    go : (t : Bool) → nat_lt (n % 2 ^ 255) prime ≡ t → cond t (with_y (residue (n % 2 ^ 255)) (n / 2 ^ 255)) None ≡ Some q → Comes q n
    go true h e =
        let c : Comes q (least (residue (n % 2 ^ 255)) + 2 ^ 255 * (n / 2 ^ 255)) = height (residue (n % 2 ^ 255)) (n / 2 ^ 255) q (side n low) e in (
          c.0,
          c.1 ∙ ap (λ k. k + 2 ^ 255 * (n / 2 ^ 255)) (least_residue (n % 2 ^ 255) ∙ mod-eq_of_lt (ltb-true (n % 2 ^ 255) prime h)) ∙ whole n,
        )
    go false h e = absurd (none-some q e)

-- WHAT DECODES is on the curve, and is encoded by no other bytes
pub encode-decoded : (b : List ℕ) (q : Point) → length b ≡ 32 → AreBytes b → decode_point b ≡ Some q → On q × (encode_point q ≡ b)
encode-decoded b q e h d = (c.0, ap encode c.1 ∙ encode-decode_little b e h)
  where
    c : Comes q (decode_little b)
    c = numbered (decode_little b) q (decoded_below b e h) d
