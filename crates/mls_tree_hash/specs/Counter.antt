-- The counter of the hashes of nodes.
use Rattle.std.specs.Prelude.{ℕ, ◌+◌, ◌-◌, ◌^◌, min}

-- the counter after so many more: it stays at its greatest number
abbrev pub counted : ℕ → ℕ → ℕ
counted n more = n + min more (2 ^ 64 - 1 - n)
