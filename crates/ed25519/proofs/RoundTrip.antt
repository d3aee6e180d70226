-- Decoding a point undoes encoding it.
use Rattle.std.specs.Prelude.{ℕ, ◌≡◌, ◌≢◌, zero, suc, ◌+◌, ◌-◌, ◌*◌, ◌/◌, ◌%◌, ◌^◌, ◌<◌, Bool, true, false, [], ◌∷◌, Some, None, cond, nat_lt, ◌==◌, ◌⊎◌, refl}
use Rattle.std.proofs.Common.{sym, ap, ap₂, ◌∙◌, inl, inr, mod-eq_of_lt, arith}
use Rattle.std.proofs.Math.Nat.{mod-mod}
use Rattle.std.proofs.lemmas.Nat.{mul-mod_second}
use Rattle.std.proofs.lemmas.Bool.{eq-eqb, ne_eqb, lt-ltb, cases_eq}
use Rattle.curve25519.specs.Modular.{of, modulo}
use Rattle.curve25519.specs.Powers.{power}
use Rattle.curve25519.specs.Field25519.{prime, below, field, residue, least, raise}
use Rattle.curve25519.specs.Codes.{residue_least}
use Rattle.curve25519.specs.Curve25519.{d, root_of_minus_one, Point, On}
use Rattle.curve25519.proofs.Identities.{Term, v, i, o, ◌⊕◌, ◌⊗◌, -◌, ◌⊖◌, lookup, ring, follows}
use Rattle.curve25519.proofs.Powers.{power-zero, power-suc}
use Rattle.curve25519.proofs.Modular.{of_same, of_self}
use Rattle.curve25519.proofs.Root.{pow, root as root_over, choose, root_of_square}
use Rattle.curve25519.proofs.Field25519.{odd, fermat, laws, mul-inv, decide, least_residue, least_below, residue-zero}
use Rattle.curve25519.proofs.Curve25519.{curve, root, not_square}
use Rattle.field25519.proofs.Encoding.{decode_little-encode}
use Rattle.ed25519.specs.Points.{same, encode_point, decode_point, candidate, square_root, x_squared, choose_sign, with_y}
open field use {Of, nil, one, add, mul, neg, inv}

-- ---- equality as a test

pub least_same : (x y : Of) → least x ≡ least y → x ≡ y
least_same x y e = sym (residue_least x) ∙ ap residue e ∙ residue_least y

same_true : (x y : Of) → x ≡ y → same x y ≡ true
same_true x y e = eq-eqb (least x) (least y) (ap least e)

same_false : (x y : Of) → x ≢ y → same x y ≡ false
same_false x y h = ne_eqb (least x) (least y) (λ e. h (least_same x y e))

least_nil : least nil ≡ 0
least_nil = ap least (sym residue-zero) ∙ least_residue 0

nil_least : (x : Of) → least x ≡ 0 → x ≡ nil
nil_least x e = least_same x nil (e ∙ sym least_nil)

-- ---- powers

raise-zero : (x : Of) → raise x 0 ≡ one
unfolding raise field modulo of
raise-zero x = of_same prime below odd (power prime x.0 0) 1 (ap (λ t. t % prime) (power-zero prime x.0) ∙ mod-mod 1 prime)

raise-suc : (x : Of) (n : ℕ) → raise x (suc n) ≡ mul x (raise x n)
unfolding raise field modulo of
raise-suc x n =
    of_same prime below odd (power prime x.0 (suc n)) (x.0 * (power prime x.0 n % prime))
    (ap (λ t. t % prime) (power-suc prime x.0 n) ∙ mod-mod (x.0 * power prime x.0 n) prime ∙ sym (mul-mod_second x.0 (power prime x.0 n) prime))

raise_is : (x : Of) (n : ℕ) → raise x n ≡ pow curve.field x n
unfolding pow
raise_is x zero = raise-zero x
raise_is x (suc n) = raise-suc x n ∙ ap (mul x) (raise_is x n)

abbrev eighth : ℕ
eighth = 2 ^ 252 - 3

raise_whole : (x : Of) → x ≢ nil → raise x (8 * eighth + 4) ≡ one
unfolding raise field modulo of
raise_whole x h = ap (of prime below) (fermat x.0 (λ e. h (sym (of_self prime below odd x) ∙ of_same prime below odd x.0 0 e)))

fermat_here : (x : Of) → x ≢ nil → pow curve.field x (8 * eighth + 4) ≡ one
fermat_here x h = sym (raise_is x (8 * eighth + 4)) ∙ raise_whole x h

-- ---- the square root

candidate_is : (z : Of) → candidate z ≡ pow curve.field z (eighth + 1)
candidate_is z = raise_is z (eighth + 1)

chosen : (z r : Of) (t : (mul r r ≡ z) ⊎ (mul r r ≢ z)) → cond (same (mul r r) z) r (mul root_of_minus_one r) ≡ choose curve.field root_of_minus_one eighth root fermat_here z r t
unfolding choose
chosen z r (inl h) = ap (λ b. cond b r (mul root_of_minus_one r)) (same_true (mul r r) z h)
chosen z r (inr h) = ap (λ b. cond b r (mul root_of_minus_one r)) (same_false (mul r r) z h)

root_is : (z : Of) → square_root z ≡ root_over curve.field root_of_minus_one eighth root fermat_here z
unfolding root_over
root_is z =
    ap (λ r. cond (same (mul r r) z) r (mul root_of_minus_one r)) (candidate_is z)
    ∙ chosen z (pow curve.field z (eighth + 1)) (decide (mul (pow curve.field z (eighth + 1)) (pow curve.field z (eighth + 1))) z)

root_of_nil : square_root (mul nil nil) ≡ nil
root_of_nil = go (same (mul (candidate (mul nil nil)) (candidate (mul nil nil))) (mul nil nil))
  where
    none : candidate (mul nil nil) ≡ nil
    none = raise-suc (mul nil nil) eighth ∙ ring curve.field.over 1 (o ⊗ o ⊗ v 0) o refl (lookup curve.field.over (raise (mul nil nil) eighth ∷ []))

    go : (b : Bool) → cond b (candidate (mul nil nil)) (mul root_of_minus_one (candidate (mul nil nil))) ≡ nil
    go true = none
    go false = ap (mul root_of_minus_one) none ∙ laws.mul-nil curve.s

pub square_root_is : (x : Of) → (square_root (mul x x) ≡ x) ⊎ (square_root (mul x x) ≡ neg x)
square_root_is x = go (decide x nil)
  where
    go : (x ≡ nil) ⊎ (x ≢ nil) → (square_root (mul x x) ≡ x) ⊎ (square_root (mul x x) ≡ neg x)
    go (inl h) = inl (ap (λ t. square_root (mul t t)) h ∙ root_of_nil ∙ sym h)
    go (inr h) = elim (root_of_square curve.field root_of_minus_one eighth root fermat_here x h) [ inl e ↦ inl (root_is (mul x x) ∙ e) | inr e ↦ inr (root_is (mul x x) ∙ e) ]

-- ---- x^2 from y

abbrev under : Of → Of
under y = add (mul d (mul y y)) one

abbrev right : Term
right = v 0 ⊗ v 0 ⊕ i ⊕ v 2 ⊗ v 0 ⊗ v 0 ⊗ v 1 ⊗ v 1

under≢nil : (x y : Of) → On (x, y) → under y ≢ nil
under≢nil x y on e =
    not_square curve.s
    (follows curve.field.over 4 (v 3 ⊗ v 3) (v 2)
    ((i, v 3 ⊗ v 3, - i) ∷ (v 2 ⊗ v 0 ⊗ v 0 ⊖ i, v 2 ⊗ (v 1 ⊗ v 1) ⊕ i, o) ∷ (v 2, v 1 ⊗ v 1, right) ∷ []) refl
    (lookup curve.field.over (x ∷ y ∷ d ∷ root_of_minus_one ∷ [])) (root, (e, (on, tt))))

x_squared_is : (x y : Of) → On (x, y) → x_squared y ≡ mul x x
x_squared_is x y on =
    follows curve.field.over 4 ((v 1 ⊗ v 1 ⊖ i) ⊗ v 3) (v 0 ⊗ v 0)
    ((v 3, v 1 ⊗ v 1, right) ∷ (v 0 ⊗ v 0, (v 2 ⊗ (v 1 ⊗ v 1) ⊕ i) ⊗ v 3, i) ∷ []) refl
    (lookup curve.field.over (x ∷ y ∷ d ∷ field.inv (under y) ∷ []))
    (on, (mul-inv (under y) (under≢nil x y on), tt))

-- ---- the sign

pub least_neg : (x : Of) → least x ≢ 0 → least (neg x) ≡ prime - least x
unfolding least field modulo of
least_neg x h = mod-eq_of_lt (omega (arith, h, x.1))

neg_neg : (x : Of) → neg (neg x) ≡ x
neg_neg x = ring curve.field.over 1 (- (- (v 0))) (v 0) refl (lookup curve.field.over (x ∷ []))

neg_nil : neg nil ≡ nil
neg_nil = ring curve.field.over 0 (- o) o refl (lookup curve.field.over [])

chooses_same : (x y : Of) → choose_sign x y (least x % 2) ≡ Some (x, y)
chooses_same x y = ap (λ b. cond b (Some (x, y)) (cond (least x == 0) None (Some (neg x, y)))) (eq-eqb (least x % 2) (least x % 2) refl)

chooses_other : (x y : Of) → least x ≢ 0 → choose_sign (neg x) y (least x % 2) ≡ Some (x, y)
chooses_other x y h =
    ap (λ b. cond b (Some (neg x, y)) (cond (least (neg x) == 0) None (Some (neg (neg x), y))))
    (ne_eqb (least (neg x) % 2) (least x % 2) (λ e. odd_prime (least x) (least (neg x)) (least_below x) (least_neg x h) e))
    ∙ ap (λ b. cond b None (Some (neg (neg x), y))) (ne_eqb (least (neg x)) 0 (λ e. positive (least x) (least (neg x)) (least_below x) (least_neg x h) e))
    ∙ ap (λ t. Some (t, y)) (neg_neg x)
  where
    odd_prime : (a b : ℕ) → a < prime → b ≡ prime - a → b % 2 ≡ a % 2 → ⊥
    odd_prime a b low e k = omega (arith, low, e, k)

    positive : (a b : ℕ) → a < prime → b ≡ prime - a → b ≡ 0 → ⊥
    positive a b low e k = omega (arith, low, e, k)

-- ---- decoding

finishes_same : (x y r : Of) → r ≡ x → cond (same (mul r r) (mul x x)) (choose_sign r y (least x % 2)) None ≡ Some (x, y)
finishes_same x y r h =
    ap (λ r. cond (same (mul r r) (mul x x)) (choose_sign r y (least x % 2)) None) h
    ∙ ap (λ b. cond b (choose_sign x y (least x % 2)) None) (same_true (mul x x) (mul x x) refl) ∙ chooses_same x y

finishes : (x y r : Of) → (r ≡ x) ⊎ (r ≡ neg x) → cond (same (mul r r) (mul x x)) (choose_sign r y (least x % 2)) None ≡ Some (x, y)
finishes x y r (inl h) = finishes_same x y r h
finishes x y r (inr h) = go (cases_eq (least x) 0)
  where
    go : (least x ≡ 0) ⊎ (least x ≡ 0 → ⊥) → cond (same (mul r r) (mul x x)) (choose_sign r y (least x % 2)) None ≡ Some (x, y)
    go (inl e) = finishes_same x y r (h ∙ ap neg (nil_least x e) ∙ neg_nil ∙ sym (nil_least x e))
    go (inr e) =
        ap (λ r. cond (same (mul r r) (mul x x)) (choose_sign r y (least x % 2)) None) h
        ∙ ap (λ b. cond b (choose_sign (neg x) y (least x % 2)) None)
        (same_true (mul (neg x) (neg x)) (mul x x) (ring curve.field.over 1 (- (v 0) ⊗ - (v 0)) (v 0 ⊗ v 0) refl (lookup curve.field.over (x ∷ []))))
        ∙ chooses_other x y e

with_y_is : (x y : Of) → On (x, y) → with_y y (least x % 2) ≡ Some (x, y)
with_y_is x y on =
    ap (λ z. cond (same (mul (square_root z) (square_root z)) z) (choose_sign (square_root z) y (least x % 2)) None) (x_squared_is x y on)
    ∙ finishes x y (square_root (mul x x)) (square_root_is x)

-- THE ROUND TRIP
pub decode-encode : (q : Point) → On q → decode_point (encode_point q) ≡ Some q
decode-encode q on =
    ap (λ n. cond (nat_lt (n % 2 ^ 255) prime) (with_y (residue (n % 2 ^ 255)) (n / 2 ^ 255)) None) (decode_little-encode (a + 2 ^ 255 * (b % 2)) (fits a b (least_below q.1)))
    ∙ ap₂ (λ m s. cond (nat_lt m prime) (with_y (residue m) s) None) (low a b (least_below q.1)) (high a b (least_below q.1))
    ∙ ap (λ t. cond t (with_y (residue a) (b % 2)) None) (lt-ltb a prime (least_below q.1))
    ∙ ap (λ y. with_y y (b % 2)) (residue_least q.1)
    ∙ with_y_is q.0 q.1 on
  where
    a : ℕ
    a = least q.1

    b : ℕ
    b = least q.0

    fits : (a b : ℕ) → a < prime → a + 2 ^ 255 * (b % 2) < 2 ^ 256
    fits a b l = omega (arith, l)

    low : (a b : ℕ) → a < prime → (a + 2 ^ 255 * (b % 2)) % 2 ^ 255 ≡ a
    low a b l = omega (arith, l)

    high : (a b : ℕ) → a < prime → (a + 2 ^ 255 * (b % 2)) / 2 ^ 255 ≡ b % 2
    high a b l = omega (arith, l)
