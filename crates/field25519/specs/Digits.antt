-- A number in five digits of 51 bits.
use Rattle.std.specs.Prelude.{ℕ, ◌+◌, ◌*◌, ◌^◌, ◌<◌}
use Rattle.field25519.specs.declared.digits.Digits.{Digits}

-- the number that the digits are
abbrev pub number : Digits → ℕ
number x = x.a + 2 ^ 51 * x.b + 2 ^ 102 * x.c + 2 ^ 153 * x.d + 2 ^ 204 * x.e

-- each digit is below the bound
abbrev pub AreBelow : ℕ → Digits → Type 0
AreBelow n x = (x.a < n) × (x.b < n) × (x.c < n) × (x.d < n) × (x.e < n)

-- what a product leaves
abbrev pub AreTight : Digits → Type 0
AreTight = AreBelow (2 ^ 51 + 2 ^ 14)

-- what a product takes: a sum or a difference of two that are tight
abbrev pub AreLoose : Digits → Type 0
AreLoose = AreBelow (2 ^ 53)

-- what a number has one spelling in
abbrev pub AreShort : Digits → Type 0
AreShort = AreBelow (2 ^ 51)
