-- What clamping bytes does to the number that they are.
use Rattle.std.specs.Prelude.{◌≡◌, ℕ, zero, suc, ◌+◌, ◌*◌, ◌/◌, ◌%◌, ◌^◌, ◌<◌, ◌≤◌, List, slice_index, refl}
use Rattle.std.specs.Int.{byte_worth, sum_through}
use Rattle.std.specs.Int.Bits.{bit_and, bit_or, or_zero_r}
use Rattle.std.proofs.Common.{sym, ap, ap₂, ◌∙◌, subst, mul-suc, mul_comm, mod-eq_of_lt, mod-lt, ltb-true, arith}
use Rattle.std.proofs.lemmas.Nat.{and_mask, or_block}
use Rattle.std.proofs.Math.Nat.{pow-suc, mul-le-mul_left}
use Rattle.std.proofs.lemmas.Nat.Bits.{and_high_mask}
use Rattle.field25519.specs.Bytes.{AreBytes, decode_little}
use Rattle.field25519.specs.Scalars.{octet, clamp, decode_scalar}

-- a number of 256 bits, clamped
abbrev pub clamped : ℕ → ℕ
clamped n = 2 ^ 254 + n % 2 ^ 254 / 8 * 8

-- the first byte and the last, and what stands between
low_cleared : (b : ℕ) → b < 256 → bit_and b 248 ≡ b / 8 * 8
low_cleared b h = and_high_mask 8 3 (omega arith) b h

high_set : (b : ℕ) → b < 256 → bit_or (bit_and b 127) 64 ≡ b % 64 + 64
high_set b h =
    ap (λ t. bit_or t 64) (and_mask b 7 ∙ split b) ∙ or_block 6 (b % 128 / 64) 1 (b % 64) 0 (omega arith) (omega arith)
    ∙ ap₂ (λ s t. s * 64 + t) (top (b % 128 / 64) (omega arith)) (or_zero_r (b % 64)) ∙ omega arith
  where
    split : (b : ℕ) → b % 2 ^ 7 ≡ b % 128 / 64 * 2 ^ 6 + b % 64
    split b = omega arith

    top : (k : ℕ) → k < 2 → bit_or k 1 ≡ 1
    top zero l = refl
    top (suc zero) l = refl
    top (suc (suc k)) l = absurd (omega arith)

-- the sum of the bytes, the first and the last apart
parts : (f : ℕ → ℕ) → sum_through (λ i. byte_worth i (f i)) 31 ≡ f 0 + 256 * sum_through (λ i. byte_worth i (f (suc i))) 29 + 2 ^ 248 * f 31
parts f = omega arith

below : (f : ℕ → ℕ) → ((i : ℕ) → f i < 256) → (k : ℕ) → sum_through (λ i. byte_worth i (f i)) k < 256 ^ suc k
below f h zero = h 0
below f h (suc k) = subst (λ n. sum_through (λ i. byte_worth i (f i)) (suc k) < n) (sym (pow-suc 256 (suc k)))
    (step (sum_through (λ i. byte_worth i (f i)) k) (f (suc k)) (256 ^ suc k) (below f h k) (mul-le-mul_left (256 ^ suc k) (h (suc k))))
  where
    step : (s b n : ℕ) → s < n → n * suc b ≤ n * 256 → s + b * n < n * 256
    step s b n l m = omega (arith, l, subst (λ t. t ≤ n * 256) (mul-suc n b) m, mul_comm b n)

together : (low rest high : ℕ) → low < 256 → rest < 256 ^ 30 → high < 256
    → low / 8 * 8 + 256 * rest + 2 ^ 248 * (high % 64 + 64) ≡ clamped (low + 256 * rest + 2 ^ 248 * high)
together low rest high l m h = omega arith

-- the clamped bytes are the clamped number
clamped_bytes : (f : ℕ → ℕ) → ((i : ℕ) → f i < 256) → sum_through (λ i. byte_worth i (clamp i (f i))) 31 ≡ clamped (sum_through (λ i. byte_worth i (f i)) 31)
clamped_bytes f h =
    parts (λ i. clamp i (f i)) ∙ ap₂ (λ a b. a + 256 * sum_through (λ i. byte_worth i (f (suc i))) 29 + 2 ^ 248 * b) (low_cleared (f 0) (h 0)) (high_set (f 31) (h 31))
    ∙ together (f 0) (sum_through (λ i. byte_worth i (f (suc i))) 29) (f 31) (h 0) (below (λ i. f (suc i)) (λ i. h (suc i)) 29) (h 31)
    ∙ ap clamped (sym (parts f))

octet_below : (k : List ℕ) (i : ℕ) → octet k i < 256
octet_below k i = mod-lt (slice_index k i) (ltb-true 0 256 refl)

-- whatever the list, the scalar is a clamped number
pub decode_scalar_is : (k : List ℕ) → decode_scalar k ≡ clamped (sum_through (λ i. byte_worth i (octet k i)) 31)
unfolding decode_scalar
decode_scalar_is k = clamped_bytes (octet k) (octet_below k)

-- of bytes it is their number, clamped
pub decode_scalar_of_bytes : (k : List ℕ) → AreBytes k → decode_scalar k ≡ clamped (decode_little k)
unfolding decode_scalar
decode_scalar_of_bytes k h = decode_scalar_is k ∙ ap (λ (f : ℕ → ℕ). clamped (sum_through (λ i. byte_worth i (f i)) 31)) same
  where
    same : octet k ≡ slice_index k
    same = λ t i. mod-eq_of_lt (h i) t
