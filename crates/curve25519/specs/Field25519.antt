-- The field of the numbers modulo 2^255 - 19.
use Rattle.std.specs.Prelude.{ℕ, ◌-◌, ◌%◌, ◌^◌, ◌<◌, refl}
use Rattle.std.proofs.Common.{ltb-true, mod-lt}
use Rattle.curve25519.specs.Numbers.{Numbers}
use Rattle.curve25519.specs.Modular.{of, modulo}
use Rattle.curve25519.specs.Powers.{power}

abbrev pub prime : ℕ
prime = 2 ^ 255 - 19

-- a number of the field has with it that it is below the prime
abbrev pub below : (n : ℕ) → n % prime < prime
below n = mod-lt n (ltb-true 0 prime refl)

unfoldable pub field : Numbers
field = modulo prime below

-- the number of the field that n is
unfoldable pub residue : ℕ → field.Of
unfolding field modulo of
residue n = of prime below n

-- its least representative
unfoldable pub least : field.Of → ℕ
unfolding field modulo of
least x = x.0

-- x to the n
unfoldable pub raise : field.Of → ℕ → field.Of
unfolding field modulo of
raise x n = of prime below (power prime x.0 n)
