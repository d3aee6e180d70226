-- Numbers modulo the order of the base point, bit by bit.
use Rattle.std.specs.Prelude.{ℕ, ◌≡◌, zero, suc, ◌+◌, ◌-◌, ◌*◌, ◌/◌, ◌%◌, ◌^◌, ◌<◌, refl}
use Rattle.std.proofs.Common.{sym, ap, ap₂, ◌∙◌, add-one, mul-add, mul_assoc, mul_comm, mul-zero, mul-one, mod-lt, subst, arith}
use Rattle.std.proofs.Math.Nat.{pow-suc, div-div-eq-div-mul}
use Rattle.curve25519.specs.Curve25519.{order}
use Rattle.field25519.specs.Bytes.{joined_words}

-- n / 2 ^ (256 - j) by one bit more
pub upper : (n j : ℕ) → j < 256 → 2 * (n / 2 ^ (256 - j)) + n / 2 ^ (255 - j) % 2 ≡ n / 2 ^ (256 - (j + 1))
upper n j low = ap (λ x. 2 * x + n / 2 ^ (255 - j) % 2) halve ∙ whole (n / 2 ^ (255 - j)) ∙ ap (λ x. n / 2 ^ x) (rest j low)
  where
    rest : (j : ℕ) → j < 256 → 255 - j ≡ 256 - (j + 1)
    rest j low = omega arith

    next : (j : ℕ) → j < 256 → 256 - j ≡ suc (255 - j)
    next j low = omega arith

    whole : (q : ℕ) → 2 * (q / 2) + q % 2 ≡ q
    whole q = omega arith

    halve : n / 2 ^ (256 - j) ≡ n / 2 ^ (255 - j) / 2
    halve = ap (λ x. n / 2 ^ x) (next j low) ∙ ap (λ x. n / x) (pow-suc 2 (255 - j)) ∙ sym (div-div-eq-div-mul n (2 ^ (255 - j)) 2)

-- the remainder by one bit more
pub absorbed : (h n j s r : ℕ) → j < 256 → s ≡ (h * 2 ^ j + n / 2 ^ (256 - j)) % order → r ≡ (2 * s + n / 2 ^ (255 - j) % 2) % order
    → r ≡ (h * 2 ^ (j + 1) + n / 2 ^ (256 - (j + 1))) % order
absorbed h n j s r low es er =
    er ∙ ap (λ x. (2 * x + n / 2 ^ (255 - j) % 2) % order) es
    ∙ twice (h * 2 ^ j + n / 2 ^ (256 - j)) (n / 2 ^ (255 - j) % 2)
    ∙ ap (λ x. x % order) (spread (h * 2 ^ j) (n / 2 ^ (256 - j)) (n / 2 ^ (255 - j) % 2) ∙ ap₂ ◌+◌ (power h j) (upper n j low))
  where
    twice : (x b : ℕ) → (2 * (x % order) + b) % order ≡ (2 * x + b) % order
    twice x b = omega arith

    spread : (x y b : ℕ) → 2 * (x + y) + b ≡ 2 * x + (2 * y + b)
    spread x y b = omega arith

    power : (h j : ℕ) → 2 * (h * 2 ^ j) ≡ h * 2 ^ (j + 1)
    power h j = mul_comm 2 (h * 2 ^ j) ∙ mul_assoc h (2 ^ j) 2 ∙ ap (λ x. h * x) (sym (pow-suc 2 j) ∙ ap (λ x. 2 ^ x) (sym (add-one j)))

-- a product by one bit more
pub multiplied : (x n j s t y r : ℕ) → j < 256 → s ≡ x * (n / 2 ^ (256 - j)) % order → t ≡ (2 * s + 0) % order → y ≡ x * (n / 2 ^ (255 - j) % 2) → r ≡ (t + y) % order
    → r ≡ x * (n / 2 ^ (256 - (j + 1))) % order
multiplied x n j s t y r low es et ey er =
    er ∙ ap₂ (λ a b. (a + b) % order) (et ∙ ap (λ a. (2 * a + 0) % order) es) ey ∙ join (x * (n / 2 ^ (256 - j))) (x * (n / 2 ^ (255 - j) % 2))
    ∙ ap (λ a. a % order) (spread x (n / 2 ^ (256 - j)) (n / 2 ^ (255 - j) % 2) ∙ ap (λ a. x * a) (upper n j low))
  where
    join : (a b : ℕ) → ((2 * (a % order) + 0) % order + b) % order ≡ (2 * a + b) % order
    join a b = omega arith

    spread : (x a b : ℕ) → 2 * (x * a) + x * b ≡ x * (2 * a + b)
    spread x a b = sym (mul-add x (2 * a) b ∙ ap (λ t. t + x * b) (sym (mul_assoc x 2 a) ∙ ap (λ t. t * a) (mul_comm x 2) ∙ mul_assoc 2 x a))

pub chosen : (x bit y : ℕ) → bit < 2 → (bit ≡ 0 → y ≡ 0) → (bit ≡ 1 → y ≡ x) → y ≡ x * bit
chosen x zero y low e0 e1 = e0 refl ∙ sym (mul-zero x)
chosen x (suc zero) y low e0 e1 = e1 refl ∙ sym (mul-one x)
chosen x (suc (suc n)) y low e0 e1 = absurd (omega arith)

pub below : (s x : ℕ) → s ≡ x % order → s < order
below s x e = subst (λ n. n < order) (sym e) (mod-lt x (omega arith))

pub begins : (h n s : ℕ) → h < order → n < 2 ^ 256 → (h * 1 + n / 2 ^ 256) % order ≡ h
begins h n s low l = omega arith

pub ends : (n i : ℕ) → i ≡ 256 → n / 2 ^ (256 - i) ≡ n
ends n i e = ap (λ x. n / 2 ^ (256 - x)) e ∙ whole n
  where
    whole : (n : ℕ) → n / 1 ≡ n
    whole n = omega arith

pub small : (a b c d : ℕ) → a < 2 ^ 64 → b < 2 ^ 64 → c < 2 ^ 64 → d < 2 ^ 64 → joined_words a b c d < 2 ^ 256
small a b c d la lb lc ld = omega arith
