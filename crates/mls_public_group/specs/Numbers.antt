-- Numbers in a row, and whether each differs from the one before it.
use Rattle.std.specs.Prelude.{◌≡◌, ◌≢◌, ℕ, suc, ◌<◌, List, length, slice_index}

-- each differs from the one before it
abbrev pub Differ : List ℕ → Type 0
Differ xs = (k : ℕ) → suc k < length xs → slice_index xs k ≢ slice_index xs (suc k)

-- one is the same as the one before it
pub record Repeats (xs : List ℕ) : Type 0 where
  pub place : ℕ
  pub within : suc place < length xs
  pub same : slice_index xs place ≡ slice_index xs (suc place)
