-- The laws of the field of the numbers modulo 2^255 - 19.
use Rattle.std.specs.Prelude.{◌≡◌, ◌≢◌, ◌⊎◌, ℕ, ◌+◌, ◌-◌, ◌*◌, ◌%◌, ◌<◌, refl}
use Rattle.std.proofs.Common.{sym, ap, ◌∙◌, ltb-true, zero-mul, arith}
use Rattle.std.proofs.lemmas.Nat.{mul-mod}
use Rattle.curve25519.specs.Modular.{of, modulo}
use Rattle.curve25519.specs.Powers.{power}
use Rattle.curve25519.specs.Field25519.{prime, below, field, residue, least, raise}
use Rattle.curve25519.specs.Laws.{PowerLaw}
use Rattle.curve25519.proofs.Ring.{Ring, IsRing}
use Rattle.curve25519.proofs.Field.{Field}
use Rattle.curve25519.proofs.Powers.{power_mod_self, power-zero, power-suc, power-add, power-mul, power-one}
use Rattle.curve25519.proofs.Modular.{of_same, of_self, modular, mul-inv as inverse_is, decide as decided, two≢nil as two_is}
use Rattle.curve25519.proofs.FieldPrime.{p_field}

abbrev pub odd : 2 < prime
odd = ltb-true 2 prime refl

pub fermat : (a : ℕ) → a % prime ≢ 0 → power prime a (prime - 1) ≡ 1
fermat = p_field.fermat

pub laws : IsRing field
unfolding field
laws = modular prime below odd

abbrev pub ring : Ring
ring = record { numbers = field; laws = laws }

pub mul-inv : (x : field.Of) → x ≢ field.nil → field.mul x (field.inv x) ≡ field.one
unfolding field modulo
mul-inv = inverse_is prime below odd fermat

pub decide : (x y : field.Of) → (x ≡ y) ⊎ (x ≢ y)
unfolding field modulo
decide = decided prime below odd

pub two≢nil : field.add field.one field.one ≢ field.nil
unfolding field modulo
two≢nil = two_is prime below odd

abbrev pub field25519 : Field
field25519 = record { over = ring; mul-inv = mul-inv; decide = decide; two≢nil = two≢nil }

-- ---- the numbers of the field, and their least representatives

pub residue_same : (m n : ℕ) → m % prime ≡ n % prime → residue m ≡ residue n
unfolding residue field modulo of
residue_same m n e = of_same prime below odd m n e

pub least_residue : (n : ℕ) → least (residue n) ≡ n % prime
unfolding residue least field modulo of
least_residue n = refl

pub least_below : (x : field.Of) → least x < prime
unfolding least field modulo of
least_below x = x.1

pub residue-mul : (n a b : ℕ) → n % prime ≡ a * b % prime → residue n ≡ field.mul (residue a) (residue b)
unfolding residue field modulo of
residue-mul n a b e = of_same prime below odd n (a % prime * (b % prime)) (e ∙ mul-mod a b prime)

pub residue-add : (n a b : ℕ) → n % prime ≡ (a + b) % prime → residue n ≡ field.add (residue a) (residue b)
unfolding residue field modulo of
residue-add n a b e = of_same prime below odd n (a % prime + b % prime) (omega (arith, e))

pub residue-sub : (n a b : ℕ) → (n + b) % prime ≡ a % prime → residue n ≡ field.add (residue a) (field.neg (residue b))
unfolding residue field modulo of
residue-sub n a b e = of_same prime below odd n (a % prime + (prime - b % prime) % prime) (omega (arith, e))

pub residue-zero : residue 0 ≡ field.nil
unfolding residue field modulo of
residue-zero = refl

pub residue-one : residue 1 ≡ field.one
unfolding residue field modulo of
residue-one = refl

-- ---- powers

pub raise-zero : (x : field.Of) → raise x 0 ≡ field.one
unfolding raise field modulo of
raise-zero x = ap (of prime below) (power-zero prime x.0) ∙ of_same prime below odd (1 % prime) 1 refl

pub raise-one : (x : field.Of) → raise x 1 ≡ x
unfolding raise field modulo of
raise-one x = of_same prime below odd (power prime x.0 1) x.0 (power_mod_self prime x.0 1 ∙ power-one prime x.0) ∙ of_self prime below odd x

pub raise-add : (x : field.Of) (i j : ℕ) → field.mul (raise x i) (raise x j) ≡ raise x (i + j)
unfolding raise field modulo of
raise-add x i j =
    of_same prime below odd (power prime x.0 i % prime * (power prime x.0 j % prime)) (power prime x.0 (i + j))
    (sym (mul-mod (power prime x.0 i) (power prime x.0 j) prime) ∙ sym (power-add prime x.0 i j) ∙ sym (power_mod_self prime x.0 (i + j)))

pub raise-mul : (x : field.Of) (i j : ℕ) → raise (raise x i) j ≡ raise x (i * j)
unfolding raise field modulo of
raise-mul x i j = ap (of prime below) (ap (λ t. power prime t j) (power_mod_self prime x.0 i) ∙ power-mul prime x.0 i j)

pub power_law : PowerLaw
power_law = record { none = raise-zero; once = raise-one; sum = λ x m n. sym (raise-add x m n) }

-- the inverse, as a power
pub raise_inverse : (x : field.Of) → raise x (prime - 2) ≡ field.inv x
unfolding raise field modulo of
raise_inverse x = refl

power_of_none : power prime 0 (prime - 2) ≡ 0
power_of_none = power-suc prime 0 (prime - 3) ∙ ap (λ t. t % prime) (zero-mul (power prime 0 (prime - 3)))

-- that of 0 is 0
pub inv-nil : field.inv field.nil ≡ field.nil
unfolding field modulo of
inv-nil = ap (of prime below) power_of_none
