-- Borrowed byte strings, and whether each differs from the one before it.
use Rattle.std.specs.Prelude.{◌≡◌, ℕ, suc, ◌<◌, true, false, List, map, length, slice_index_or}
use Rattle.std.specs.Borrow.{Bor}
use Rattle.std.specs.Cmp.Lexicographic.{pointwise}
use Rattle.std.specs.Prelude.{nat_eq}

-- the byte strings that are borrowed
abbrev pub bytes_in : List (Bor (List ℕ)) → List (List ℕ)
bytes_in xs = map (λ x. x.now) xs

-- each differs from the one before it
abbrev pub Differ : List (Bor (List ℕ)) → Type 0
Differ xs = (k : ℕ) (d : Bor (List ℕ)) → suc k < length xs → pointwise nat_eq (slice_index_or xs k d).now (slice_index_or xs (suc k) d).now ≡ false

-- one is the same as the one before it
pub record Repeats (xs : List (Bor (List ℕ))) : Type 0 where
  pub place : ℕ
  pub within : suc place < length xs
  pub same : (d : Bor (List ℕ)) → pointwise nat_eq (slice_index_or xs place d).now (slice_index_or xs (suc place) d).now ≡ true
