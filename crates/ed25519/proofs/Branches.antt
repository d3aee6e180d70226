-- What the code of decoding computes, at what the coordinates stand for.
use Rattle.std.specs.Prelude.{Option, MatchOption, ℕ, ◌≡◌, ◌≢◌, ◌/◌, ◌%◌, ◌^◌, ◌<◌, [], ◌∷◌, Bool, true, false, List, Some, None, cond, nat_lt, ◌==◌, ◌⊎◌, refl}
use Rattle.std.proofs.Common.{sym, ap, ap₂, ◌∙◌, inl, inr, mod-eq_of_lt, arith}
use Rattle.std.proofs.lemmas.Bool.{eqb-true, eq-eqb, ne_eqb, lt-ltb}
use Rattle.curve25519.specs.Field25519.{prime, field, residue, least}
use Rattle.curve25519.specs.Curve25519.{d, root_of_minus_one, Point, On}
use Rattle.curve25519.proofs.Identities.{Term, v, i, o, ◌⊕◌, ◌⊗◌, -◌, ◌⊖◌, lookup, follows}
use Rattle.curve25519.proofs.Edwards.{one≢nil}
use Rattle.curve25519.proofs.Field25519.{laws, mul-inv, decide, residue-one}
use Rattle.curve25519.proofs.Curve25519.{curve, root, not_square}
use Rattle.field25519.specs.Bytes.{joined_words, decode_little}
use Rattle.ed25519.specs.Points.{same, x_squared, square_root, choose_sign, with_y, decode_point}
use Rattle.ed25519.proofs.RoundTrip.{least_same}
open field use {Of, nil, one, add, mul, neg, inv}

-- ---- a root of x_squared is the x of a point of the curve

abbrev under : Of → Of
under y = add (mul d (mul y y)) one

tUnder : Term
tUnder = v 2 ⊗ (v 1 ⊗ v 1) ⊕ i

-- -1 is a square, and d is none: no y makes the divisor 0
under≢nil : (y : Of) → under y ≢ nil
under≢nil y e = go (decide y nil)
  where
    go : (y ≡ nil) ⊎ (y ≢ nil) → ⊥
    go (inl h) = one≢nil curve.field
        (follows curve.field.over 2 i o ((i, v 1 ⊗ (v 0 ⊗ v 0) ⊕ i, o) ∷ (- (v 1 ⊗ v 0), v 0, o) ∷ []) refl (lookup curve.field.over (y ∷ d ∷ [])) (e, (h, tt)))
    go (inr h) = not_square (mul root_of_minus_one (field.inv y))
        (follows curve.field.over 4 ((v 2 ⊗ v 3) ⊗ (v 2 ⊗ v 3)) (v 1)
        ((v 3 ⊗ v 3, v 2 ⊗ v 2, - i) ∷ (- (v 3 ⊗ v 3), v 1 ⊗ (v 0 ⊗ v 0) ⊕ i, o) ∷ (v 1 ⊗ (v 0 ⊗ v 3 ⊕ i), v 0 ⊗ v 3, i) ∷ []) refl
        (lookup curve.field.over (y ∷ d ∷ root_of_minus_one ∷ field.inv y ∷ []))
        (root, (e, (mul-inv y h, tt))))

pub on_of_square : (x y : Of) → mul x x ≡ x_squared y → On (x, y)
on_of_square x y e =
    follows curve.field.over 4 (v 1 ⊗ v 1) (v 0 ⊗ v 0 ⊕ i ⊕ v 2 ⊗ v 0 ⊗ v 0 ⊗ v 1 ⊗ v 1)
    ((- (v 2 ⊗ (v 1 ⊗ v 1) ⊕ i), v 0 ⊗ v 0, (v 1 ⊗ v 1 ⊖ i) ⊗ v 3) ∷ (- (v 1 ⊗ v 1 ⊖ i), (v 2 ⊗ (v 1 ⊗ v 1) ⊕ i) ⊗ v 3, i) ∷ []) refl
    (lookup curve.field.over (x ∷ y ∷ d ∷ field.inv (under y) ∷ []))
    (e, (mul-inv (under y) (under≢nil y), tt))

pub same_is : (x y : Of) → same x y ≡ true → x ≡ y
same_is x y e = least_same x y (eqb-true (least x) (least y) e)

-- ---- the branches of decoding

pub x_squared_is : (y one square k under r : Of) → one ≡ residue 1 → square ≡ mul y y → k ≡ mul d square → under ≡ mul (add k one) one
    → r ≡ mul (add square (neg one)) (field.inv under) → r ≡ x_squared y
x_squared_is y o' square k under r eo es ek eu er =
    er ∙ ap₂ (λ a b. mul a (field.inv b)) (ap₂ (λ a b. add a (neg b)) es (eo ∙ residue-one))
    (eu ∙ ap₂ (λ a b. mul (add a b) b) (ek ∙ ap (mul d) es) (eo ∙ residue-one) ∙ laws.mul-one (add (mul d (mul y y)) one))

-- a decoder's answer: the point of the definition, if that has one
abbrev pub Answers : {E : Type 0} → (E → Point → Type 0) → Option E → Option Point → Type 0
Answers rep out d = MatchOption out (d ≡ None) (λ e. (q : Point) × (d ≡ Some q) × On q × rep e q)

answers_by : {E : Type 0} (rep : E → Point → Type 0) (out : Option E) (d d' : Option Point) → d' ≡ d → Answers rep out d → Answers rep out d'
answers_by rep None d d' e h = e ∙ h
answers_by rep (Some x) d d' e h = (h.0, e ∙ h.1, h.2, h.3)

pub first_root : (x y : Of) (side bit : ℕ) → bit ≡ least x % 2 → bit ≡ side → choose_sign x y side ≡ Some (x, y)
first_root x y side bit e h = ap (λ t. cond t (Some (x, y)) (cond (least x == 0) None (Some (neg x, y)))) (eq-eqb (least x % 2) side (sym e ∙ h))

pub other_root : (x y : Of) (side bit : ℕ) (z : Bool) → bit ≡ least x % 2 → (bit ≡ side → ⊥) → z ≡ (least x == 0) → z ≡ false → choose_sign x y side ≡ Some (neg x, y)
other_root x y side bit z e h ez hz =
    ap (λ t. cond t (Some (x, y)) (cond (least x == 0) None (Some (neg x, y)))) (ne_eqb (least x % 2) side (λ k. h (e ∙ k)))
    ∙ ap (λ t. cond t None (Some (neg x, y))) (sym ez ∙ hz)

pub with_height : {E : Type 0} (rep : E → Point → Type 0) (out : Option E) (x y z square : Of) (side : ℕ) (t : Bool) → z ≡ x_squared y → x ≡ square_root z → square ≡ mul x x
    → t ≡ same square z → t ≡ true → (On (x, y) → Answers rep out (choose_sign x y side))
    → Answers rep out (with_y y side)
with_height rep out x y z square side t ez ex es et h g =
    answers_by rep out (choose_sign x y side) (with_y y side)
    (ap (λ z. cond (same (mul (square_root z) (square_root z)) z) (choose_sign (square_root z) y side) None) (sym ez)
    ∙ ap (λ x. cond (same (mul x x) z) (choose_sign x y side) None) (sym ex)
    ∙ ap (λ t. cond t (choose_sign x y side) None) is)
    (g (on_of_square x y (same_is (mul x x) z is ∙ ez)))
  where
    is : same (mul x x) z ≡ true
    is = ap (λ s. same s z) (sym es) ∙ sym et ∙ h

pub from_height : {E : Type 0} (rep : E → Point → Type 0) (out : Option E) (bytes : List ℕ) (a b c d : ℕ) (y : Of) → a < 2 ^ 64 → b < 2 ^ 64 → c < 2 ^ 64
    → joined_words a b c d ≡ decode_little bytes → joined_words a b c (d % 9223372036854775808) < prime → y ≡ residue (joined_words a b c (d % 9223372036854775808) % 2 ^ 255)
    → Answers rep out (with_y y (d / 9223372036854775808)) → Answers rep out (decode_point bytes)
from_height rep out bytes a b c d y la lb lc e low ey g =
    answers_by rep out (with_y y (d / 9223372036854775808)) (decode_point bytes)
    (ap (λ n. cond (nat_lt (n % 2 ^ 255) prime) (with_y (residue (n % 2 ^ 255)) (n / 2 ^ 255)) None) (sym e)
    ∙ ap₂ (λ m s. cond (nat_lt m prime) (with_y (residue m) s) None) (lower a b c d la lb lc) (upper a b c d la lb lc)
    ∙ ap (λ t. cond t (with_y (residue (joined_words a b c (d % 9223372036854775808))) (d / 9223372036854775808)) None) (lt-ltb (joined_words a b c (d % 9223372036854775808)) prime low)
    ∙ ap (λ y. with_y y (d / 9223372036854775808)) (ap residue (sym (mod-eq_of_lt (wide (joined_words a b c (d % 9223372036854775808)) low))) ∙ sym ey))
    g
  where
    lower : (a b c d : ℕ) → a < 2 ^ 64 → b < 2 ^ 64 → c < 2 ^ 64 → joined_words a b c d % 2 ^ 255 ≡ joined_words a b c (d % 9223372036854775808)
    lower a b c d la lb lc = omega arith

    upper : (a b c d : ℕ) → a < 2 ^ 64 → b < 2 ^ 64 → c < 2 ^ 64 → joined_words a b c d / 2 ^ 255 ≡ d / 9223372036854775808
    upper a b c d la lb lc = omega arith

    wide : (n : ℕ) → n < prime → n < 2 ^ 255
    wide n h = omega arith
