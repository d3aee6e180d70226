-- A step of the multiplication of a point, by two bits of the scalar.
use Rattle.std.specs.Prelude.{ℕ, ◌≡◌, zero, suc, ◌+◌, ◌-◌, ◌*◌, ◌/◌, ◌%◌, ◌^◌, ◌<◌, refl}
use Rattle.std.proofs.Common.{sym, ap, ap₂, ◌∙◌, arith}
use Rattle.std.proofs.Math.Nat.{pow-suc, div-div-eq-div-mul}
use Rattle.curve25519.specs.Curve25519.{Point, On, ◌+ₚ◌, origin, multiple}
use Rattle.curve25519.proofs.Group.{multiples_add, multiple-zero, multiple-one, multiple-suc}
use Rattle.curve25519.proofs.Curve25519.{curve}

-- ---- small multiples

pub once : (q : Point) → q ≡ multiple q 1
once q = sym (multiple-one curve q)

pub twice : (q : Point) → (q +ₚ q) ≡ multiple q 2
twice q = ap (λ t. t +ₚ q) (once q) ∙ sym (multiple-suc curve q 1)

pub thrice : (q : Point) → (q +ₚ q +ₚ q) ≡ multiple q 3
thrice q = ap (λ t. t +ₚ q) (twice q) ∙ sym (multiple-suc curve q 2)

pub together : (q : Point) (m k : ℕ) → On q → (multiple q m +ₚ multiple q k) ≡ multiple q (m + k)
together q m k on = multiples_add curve q on k m ∙ ap (multiple q) (swap k m)
  where
    swap : (k m : ℕ) → k + m ≡ m + k
    swap k m = omega arith

-- ---- the scalar's upper bits, by two more

four_power : (k : ℕ) → 2 ^ (2 * k) ≡ 4 ^ k
four_power zero = refl
four_power (suc k) = ap (λ t. 2 ^ t) (next k) ∙ pow-suc 2 (suc (2 * k)) ∙ ap (λ t. t * 2) (pow-suc 2 (2 * k)) ∙ ap (λ t. t * 2 * 2) (four_power k) ∙ double (4 ^ k) ∙ sym (pow-suc 4 k)
  where
    next : (k : ℕ) → 2 * suc k ≡ suc (suc (2 * k))
    next k = omega arith

    double : (x : ℕ) → x * 2 * 2 ≡ x * 4
    double x = omega arith

pair : (n k : ℕ) → 4 * (n / 4 ^ suc k) + (2 * (n / 2 ^ suc (2 * k) % 2) + n / 2 ^ (2 * k) % 2) ≡ n / 4 ^ k
pair n k =
    ap₂ (λ a b. 4 * a + (2 * (b % 2) + n / 2 ^ (2 * k) % 2)) quarter half ∙ ap (λ t. 4 * (n / 4 ^ k / 4) + (2 * (n / 4 ^ k / 2 % 2) + n / t % 2)) (four_power k) ∙ whole (n / 4 ^ k)
  where
    quarter : n / 4 ^ suc k ≡ n / 4 ^ k / 4
    quarter = ap (λ t. n / t) (pow-suc 4 k) ∙ sym (div-div-eq-div-mul n (4 ^ k) 4)

    half : n / 2 ^ suc (2 * k) ≡ n / 4 ^ k / 2
    half = ap (λ t. n / t) (pow-suc 2 (2 * k) ∙ ap (λ t. t * 2) (four_power k)) ∙ sym (div-div-eq-div-mul n (4 ^ k) 2)

    whole : (x : ℕ) → 4 * (x / 4) + (2 * (x / 2 % 2) + x % 2) ≡ x
    whole x = omega arith

pub upper : (n i high low : ℕ) → i < 128 → high ≡ n / 2 ^ (255 - 2 * i) % 2 → low ≡ n / 2 ^ (254 - 2 * i) % 2
    → 4 * (n / 4 ^ (128 - i)) + (2 * high + low) ≡ n / 4 ^ (128 - (i + 1))
upper n i high low l eh el =
    ap₂ (λ a b. 4 * (n / 4 ^ (128 - i)) + (2 * a + b)) (eh ∙ ap (λ t. n / 2 ^ t % 2) (odd i l)) (el ∙ ap (λ t. n / 2 ^ t % 2) (even i l))
    ∙ ap (λ t. 4 * (n / 4 ^ t) + (2 * (n / 2 ^ suc (2 * (127 - i)) % 2) + n / 2 ^ (2 * (127 - i)) % 2)) (next i l)
    ∙ pair n (127 - i) ∙ ap (λ t. n / 4 ^ t) (rest i)
  where
    odd : (i : ℕ) → i < 128 → 255 - 2 * i ≡ suc (2 * (127 - i))
    odd i l = omega arith

    even : (i : ℕ) → i < 128 → 254 - 2 * i ≡ 2 * (127 - i)
    even i l = omega arith

    next : (i : ℕ) → i < 128 → 128 - i ≡ suc (127 - i)
    next i l = omega arith

    rest : (i : ℕ) → 127 - i ≡ 128 - (i + 1)
    rest i = omega arith

pub starts : (q : Point) (n : ℕ) → n < 2 ^ 256 → multiple q (n / 4 ^ 128) ≡ origin
starts q n low = ap (multiple q) (none n low) ∙ multiple-zero curve q
  where
    none : (n : ℕ) → n < 2 ^ 256 → n / 4 ^ 128 ≡ 0
    none n low = omega arith

pub ends : (n i : ℕ) → i ≡ 128 → n / 4 ^ (128 - i) ≡ n
ends n i e = ap (λ t. n / 4 ^ (128 - t)) e ∙ whole n
  where
    whole : (n : ℕ) → n / 1 ≡ n
    whole n = omega arith
