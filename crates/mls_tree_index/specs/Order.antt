-- Numbers in the order of their keys.
use Rattle.std.specs.Prelude.{◌≡◌, ℕ, ◌<◌, ◌≤◌, true, false, List, [], length, get_or, Option, is_some}
use Rattle.std.specs.Option.{unwrap_or}
use Rattle.std.specs.Ordering.{nat_cmp, ordering_then, is_lt}
use Rattle.std.specs.Cmp.Lexicographic.{slice_cmp}
use Rattle.std.specs.declared.cmp.Ordering.{Ordering}
use Rattle.std.specs.declared.cmp.Ordering.TheVariants.{Less}

-- the key at a number, with the number
abbrev pub entry_at : (ℕ → Option (List ℕ)) → ℕ → List ℕ × ℕ
entry_at at x = (unwrap_or (at x) [], x)

-- entries compare by key, and then by number
abbrev pub entry_cmp : List ℕ × ℕ → List ℕ × ℕ → Ordering
entry_cmp d e = ordering_then (slice_cmp nat_cmp d.0 e.0) (nat_cmp d.1 e.1)

-- these are the numbers that have a key, each once, in the order of their entries
pub record Entries (at : ℕ → Option (List ℕ)) (numbers : List ℕ) : Type 0 where
  pub all : (x : ℕ) → is_some (at x) ≡ true → (j : ℕ) × (j < length numbers) × (get_or numbers j 0 ≡ x)
  pub keyed : (j : ℕ) → j < length numbers → is_some (at (get_or numbers j 0)) ≡ true
  pub ascend : (i j : ℕ) → i < j → j < length numbers → entry_cmp (entry_at at (get_or numbers i 0)) (entry_at at (get_or numbers j 0)) ≡ Less

-- the entries before place p are below e, and no other is
pub record IsGap (at : ℕ → Option (List ℕ)) (numbers : List ℕ) (e : List ℕ × ℕ) (p : ℕ) : Type 0 where
  pub within : p ≤ length numbers
  pub below : (k : ℕ) → k < p → entry_cmp (entry_at at (get_or numbers k 0)) e ≡ Less
  pub above : (k : ℕ) → p ≤ k → k < length numbers → is_lt (entry_cmp (entry_at at (get_or numbers k 0)) e) ≡ false

-- each key that is in one is in the other
abbrev pub IsPart : (ℕ → Option (List ℕ)) → (ℕ → Option (List ℕ)) → Type 0
IsPart a b = (x : ℕ) → is_some (a x) ≡ true → b x ≡ a x
