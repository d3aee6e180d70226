-- Lists of entries: cells that have a key, each by its number and the front of its key.
use Rattle.std.specs.Prelude.{◌≡◌, ℕ, ◌+◌, ◌*◌, ◌-◌, ◌<◌, nat_eq, nat_lt, Bool, ◌&&◌, cond, List, [], length, get_or, map, slice_index_or, Option, Some, is_some}
use Rattle.std.specs.List.{All}
use Rattle.std.specs.Option.{unwrap_or}
use Rattle.std.specs.Ordering.{nat_cmp, ordering_then}
use Rattle.std.specs.Cmp.Lexicographic.{pointwise}
use Rattle.std.specs.declared.cmp.Ordering.{Ordering}
use Rattle.std.specs.declared.cmp.Ordering.TheVariants.{Less}
use Rattle.mls_tree_model.specs.Sets.{count}
use Rattle.mls_tree_index.specs.declared.entry.Entry.{Entry}
use Rattle.mls_tree_index.specs.Order.{Entries, entry_at, entry_cmp}

-- the first four bytes of a key as a number, the first one the highest, with 0 for each that is missing
abbrev pub front_of : List ℕ → ℕ
front_of k = 16777216 * get_or k 0 0 + 65536 * get_or k 1 0 + 256 * get_or k 2 0 + get_or k 3 0

-- the first four elements of a list are bytes
pub record BeginsWithBytes (k : List ℕ) : Type 0 where
  pub first : get_or k 0 0 < 256
  pub second : get_or k 1 0 < 256
  pub third : get_or k 2 0 < 256
  pub fourth : get_or k 3 0 < 256

-- what is read past the end of a list of entries
abbrev pub blank_entry : Entry
blank_entry = record { front = 0; number = 0 }

-- the numbers of some entries
abbrev pub numbers_of : List Entry → List ℕ
numbers_of es = map (λ e. e.number) es

-- an entry is that of a key
pub record IsEntry (at : ℕ → Option (List ℕ)) (e : Entry) : Type 0 where
  pub key : List ℕ
  pub here : at e.number ≡ Some key
  pub front : e.front ≡ front_of key
  pub bytes : BeginsWithBytes key

-- each number that has a key has one entry, and no other number has one
pub record AreEntries (at : ℕ → Option (List ℕ)) (es : List Entry) : Type 0 where
  pub keyed : All (IsEntry at) es
  pub once : (x : ℕ) → count nat_eq x (numbers_of es) ≡ cond (is_some (at x)) 1 0

-- these are the entries of all numbers that have a key, each once, in their order
pub record AreOrdered (at : ℕ → Option (List ℕ)) (es : List Entry) : Type 0 where
  pub numbers : Entries at (numbers_of es)
  pub keyed : All (IsEntry at) es

-- the front of an entry, with its key and its number
abbrev pub fronted : (ℕ → Option (List ℕ)) → Entry → ℕ × (List ℕ × ℕ)
fronted at e = (e.front, entry_at at e.number)

-- they compare by front, then by key, and then by number
abbrev pub front_cmp : ℕ × (List ℕ × ℕ) → ℕ × (List ℕ × ℕ) → Ordering
front_cmp d e = ordering_then (nat_cmp d.0 e.0) (entry_cmp d.1 e.1)

-- each entry is below those behind it, by key and then by number
abbrev pub EntriesAscend : (ℕ → Option (List ℕ)) → List Entry → Type 0
EntriesAscend at es =
    (i j : ℕ) (d : Entry) → i < j → j < length es →
    entry_cmp (entry_at at (slice_index_or es i d).number) (entry_at at (slice_index_or es j d).number) ≡ Less

-- the key of the entry at a place
abbrev pub key_at : (ℕ → Option (List ℕ)) → List Entry → ℕ → List ℕ
key_at at es p = unwrap_or (at (get_or (numbers_of es) p 0)) []

-- whether the entry before a place has the key of that at the place
abbrev pub is_again : (ℕ → Option (List ℕ)) → List Entry → ℕ → Bool
is_again at es p = nat_lt 0 p && pointwise nat_eq (key_at at es (p - 1)) (key_at at es p)
