-- Five sums of products as one number.
use Rattle.std.specs.Prelude.{ℕ, ◌+◌, ◌*◌, ◌^◌}

-- each counts 2^51 of the one before it
abbrev pub value : ℕ → ℕ → ℕ → ℕ → ℕ → ℕ
value p q r s t = p + 2 ^ 51 * q + 2 ^ 102 * r + 2 ^ 153 * s + 2 ^ 204 * t
