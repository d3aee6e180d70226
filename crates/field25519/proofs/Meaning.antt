-- What the operations on digits give, at what the digits stand for.
use Rattle.std.specs.Prelude.{◌≡◌, ℕ, suc, ◌+◌, ◌*◌, ◌%◌, ◌^◌}
use Rattle.std.proofs.Common.{sym, ap, ap₂, ◌∙◌, add-one, arith}
use Rattle.curve25519.specs.Field25519.{prime, field, residue, least, raise}
use Rattle.curve25519.proofs.Ring.{nil-add}
use Rattle.curve25519.proofs.Field25519.{laws, ring, least_residue, residue-mul, residue-add, residue-sub, residue-zero, residue-one, raise-add, raise-mul}

pub product_is : (r x y : ℕ) (a b : field.Of) → r % prime ≡ x * y % prime → residue x ≡ a → residue y ≡ b → residue r ≡ field.mul a b
product_is r x y a b e ea eb = residue-mul r x y e ∙ ap₂ field.mul ea eb

pub scaled_is : (r k y : ℕ) (b : field.Of) → r % prime ≡ k * y % prime → residue y ≡ b → residue r ≡ field.mul (residue k) b
scaled_is r k y b e eb = residue-mul r k y e ∙ ap (field.mul (residue k)) eb

pub sum_is : (r x y : ℕ) (a b : field.Of) → r ≡ x + y → residue x ≡ a → residue y ≡ b → residue r ≡ field.add a b
sum_is r x y a b e ea eb = residue-add r x y (ap (λ t. t % prime) e) ∙ ap₂ field.add ea eb

pub difference_is : (r x y : ℕ) (a b : field.Of) → r + y ≡ x + 2 * prime → residue x ≡ a → residue y ≡ b → residue r ≡ field.add a (field.neg b)
difference_is r x y a b e ea eb =
    residue-sub r x y (omega (arith, e)) ∙ ap₂ (λ s t. field.add s (field.neg t)) ea eb

pub least_of : (v : ℕ) (a : field.Of) → residue v ≡ a → v % prime ≡ least a
least_of v a e = sym (least_residue v) ∙ ap least e

pub negated_is : (w n o m l r : field.Of) → n ≡ residue 0 → o ≡ residue 1 → l ≡ field.add n (field.neg m) → w ≡ o → r ≡ field.mul l w → r ≡ field.neg m
negated_is w n o m l r en eo el ew er =
    er ∙ ap₂ field.mul (el ∙ ap (λ t. field.add t (field.neg m)) (en ∙ residue-zero)) (ew ∙ eo ∙ residue-one)
    ∙ laws.mul-one (field.add field.nil (field.neg m)) ∙ nil-add ring (field.neg m)

-- a product of two powers, and a power squared n times
pub combined : (x a b r : field.Of) (i j : ℕ) → a ≡ raise x i → b ≡ raise x j → r ≡ field.mul a b → r ≡ raise x (i + j)
combined x a b r i j ea eb e = e ∙ ap (λ t. field.mul t b) ea ∙ ap (field.mul (raise x i)) eb ∙ raise-add x i j

pub repeated : (x a r : field.Of) (i n : ℕ) → a ≡ raise x i → r ≡ raise a (2 ^ n) → r ≡ raise x (i * 2 ^ n)
repeated x a r i n ea e = e ∙ ap (λ t. raise t (2 ^ n)) ea ∙ raise-mul x i (2 ^ n)

pub once_more : (x a r : field.Of) (n : ℕ) → a ≡ raise x (2 ^ n) → r ≡ field.mul a a → r ≡ raise x (2 ^ (n + 1))
once_more x a r n ea e = combined x a a r (2 ^ n) (2 ^ n) ea ea e ∙ ap (raise x) (twice n ∙ ap (λ t. 2 ^ t) (sym (add-one n)))
  where
    twice : (n : ℕ) → 2 ^ n + 2 ^ n ≡ 2 ^ suc n
    twice n = omega arith
