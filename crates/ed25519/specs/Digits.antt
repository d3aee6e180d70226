-- The digits of a scalar to the base 16, in eight columns: column r has digits r, 8 + r, 16 + r, ...
use Rattle.std.specs.Prelude.{ℕ, zero, suc, ◌+◌, ◌*◌, ◌/◌, ◌%◌, ◌^◌}

abbrev pub digit : ℕ → ℕ → ℕ
digit n i = n / 16 ^ i % 16

-- the worth of the first j digits of column r, divided by 16^r
unfoldable pub column : ℕ → ℕ → ℕ → ℕ
column n r zero = 0
column n r (suc j) = column n r j + digit n (8 * j + r) * 16 ^ (8 * j)
