-- Laws of powers modulo m, and how the kernel computes them.
use Rattle.std.proofs.Common.{◌≡◌, ℕ, zero, suc, ◌+◌, ◌*◌, ◌/◌, ◌%◌, ◌^◌, ◌<◌, refl, sym, ap, ◌∙◌, zero-add, suc-add, mul_assoc, one-mul, mul-one, mul-suc, mul-zero, arith}
use Rattle.std.proofs.Math.Nat.{mod-mod}
use Rattle.std.proofs.lemmas.Nat.{mul-mod_first, mul-mod_second}
use Rattle.curve25519.specs.Powers.{power}

-- what the kernel computes
abbrev pub power_mod : ℕ → ℕ → ℕ → ℕ → ℕ
power_mod zero m b e = 1 % m
power_mod (suc f) m b zero = 1 % m
power_mod (suc f) m b (suc e) = elim (suc e % 2) [ zero ↦ power_mod f m (b * b % m) (suc e / 2) | suc k ↦ b * power_mod f m (b * b % m) (suc e / 2) % m ]

pub power-zero : (m b : ℕ) → power m b 0 ≡ 1 % m
unfolding power
power-zero m b = refl

pub power-suc : (m b e : ℕ) → power m b (suc e) ≡ b * power m b e % m
unfolding power
power-suc m b e = refl

pub power_mod_self : (m b e : ℕ) → power m b e % m ≡ power m b e
unfolding power
power_mod_self m b zero = mod-mod 1 m
power_mod_self m b (suc e) = mod-mod (b * power m b e) m

pub power-add : (m b i j : ℕ) → power m b (i + j) ≡ power m b i * power m b j % m
unfolding power
power-add m b zero j = ap (power m b) (zero-add j) ∙ sym (power_mod_self m b j) ∙ ap (λ x. x % m) (sym (one-mul (power m b j))) ∙ sym (mul-mod_first 1 (power m b j) m)
power-add m b (suc i) j =
    ap (power m b) (suc-add i j) ∙ ap (λ x. b * x % m) (power-add m b i j) ∙ mul-mod_second b (power m b i * power m b j) m
    ∙ ap (λ x. x % m) (sym (mul_assoc b (power m b i) (power m b j))) ∙ sym (mul-mod_first (b * power m b i) (power m b j) m)

pub power-base : (m b e : ℕ) → power m (b % m) e ≡ power m b e
unfolding power
power-base m b zero = refl
power-base m b (suc e) = ap (λ x. b % m * x % m) (power-base m b e) ∙ mul-mod_first b (power m b e) m

-- a power of a power
pub power-mul : (m b i j : ℕ) → power m (power m b i) j ≡ power m b (i * j)
unfolding power
power-mul m b i zero = ap (power m b) (sym (mul-zero i))
power-mul m b i (suc j) =
    ap (λ x. power m b i * x % m) (power-mul m b i j) ∙ sym (power-add m b i (i * j)) ∙ ap (power m b) (omega (arith, mul-suc i j))

pub power-one : (m b : ℕ) → power m b 1 ≡ b % m
unfolding power
power-one m b = mul-mod_second b 1 m ∙ ap (λ x. x % m) (mul-one b)

pub power_square : (m b e : ℕ) → power m (b * b % m) e ≡ power m b (2 * e)
unfolding power
power_square m b zero = refl
power_square m b (suc e) =
    ap (λ x. b * b % m * x % m) (power_square m b e) ∙ mul-mod_first (b * b) (power m b (2 * e)) m
    ∙ ap (λ x. x % m) (mul_assoc b b (power m b (2 * e))) ∙ sym (mul-mod_second b (b * power m b (2 * e)) m)
    ∙ ap (power m b) twice
  where
    twice : suc (suc (2 * e)) ≡ 2 * suc e
    twice = omega arith

halved : (f e : ℕ) → suc e < 2 ^ suc f → suc e / 2 < 2 ^ f
halved f e h = omega arith

-- the computed power is the power
pub power_is : (f m b e : ℕ) → e < 2 ^ f → power_mod f m b e ≡ power m b e
unfolding power
power_is zero m b zero h = refl
power_is zero m b (suc e) h = absurd (omega arith)
power_is (suc f) m b zero h = refl
power_is (suc f) m b (suc e) h = go (suc e % 2) refl (power_is f m (b * b % m) (suc e / 2) (halved f e h))
  where
    go : (k : ℕ) → suc e % 2 ≡ k → power_mod f m (b * b % m) (suc e / 2) ≡ power m (b * b % m) (suc e / 2)
        → elim k [ zero ↦ power_mod f m (b * b % m) (suc e / 2) | suc j ↦ b * power_mod f m (b * b % m) (suc e / 2) % m ] ≡ power m b (suc e)
    go zero even h = h ∙ power_square m b (suc e / 2) ∙ ap (power m b) whole
      where
        whole : 2 * (suc e / 2) ≡ suc e
        whole = omega arith
    go (suc j) odd h = ap (λ x. b * x % m) (h ∙ power_square m b (suc e / 2)) ∙ ap (λ x. b * power m b x % m) rest
      where
        rest : 2 * (suc e / 2) ≡ e
        rest = omega arith
