-- Searches for the place of the entry of a key.
use Rattle.std.specs.Prelude.{◌≡◌, ◌-◌, ◌+◌, ◌<◌, ℕ, List, length, Option, Bool, true, false, get_or}
use Rattle.std.specs.Ordering.{is_lt}
use Rattle.mls_leaf.specs.declared.node.Node.{Node}
use Rattle.mls_tree_index.specs.declared.entry.Entry.{Entry}
use Rattle.mls_tree_index.specs.declared.kind.KeyKind.{KeyKind}
use Rattle.mls_tree_index.specs.Keys.{key_in, is_held, is_key_at}
use Rattle.mls_tree_index.specs.Order.{IsPart, IsGap}
use Rattle.mls_tree_index.specs.Entries.{AreOrdered, blank_entry, fronted, front_cmp, numbers_of}
use Rattle.mls_tree_index.specs.Blocks.{first_of}

-- whether an entry comes before that of a key, by front, then by key, and then by number
abbrev pub is_lower : KeyKind → List (Option Node) → List ℕ → Entry → Entry → Bool
is_lower k cells key e own = is_lt (front_cmp (fronted (key_in k cells) own) (e.front, (key, e.number)))

-- the last entry before a place of a block comes before that of a key, where it stands behind known ones
abbrev pub IsLowBefore : KeyKind → List (Option Node) → List ℕ → Entry → List Entry → ℕ → ℕ → Type 0
IsLowBefore k cells key e es known p =
    known < p → is_lower k cells key e (get_or es (p - 1) blank_entry) ≡ true

-- the entry behind a place of a block doesn't come before that of a key
abbrev pub IsHighAt : KeyKind → List (Option Node) → List ℕ → Entry → List Entry → ℕ → Type 0
IsHighAt k cells key e es p =
    p < length es → is_lower k cells key e (get_or es p blank_entry) ≡ false

-- a block that isn't the first one begins before the entry of a key
abbrev pub BeginsLow : KeyKind → List (Option Node) → List ℕ → Entry → List (List Entry) → ℕ → Type 0
BeginsLow k cells key e bs b = 0 < b → is_lower k cells key e (first_of bs b) ≡ true

-- the block behind one doesn't begin before the entry of a key
abbrev pub EndsHigh : KeyKind → List (Option Node) → List ℕ → Entry → List (List Entry) → ℕ → Type 0
EndsHigh k cells key e bs b =
    b + 1 < length bs → is_lower k cells key e (first_of bs (b + 1)) ≡ false

-- a place is the gap for a key with a number, among the keys of each list of cells that the given cells have
abbrev pub IsPlaceOf : KeyKind → List Entry → List (Option Node) → List ℕ → ℕ → ℕ → Type 0
IsPlaceOf k es cells key x place =
    (at : ℕ → Option (List ℕ)) → IsPart at (key_in k cells) → AreOrdered at es →
    IsGap at (numbers_of es) (key, x) place

-- a list tells whether the entry at a place has a key
abbrev pub AnswersAt : KeyKind → List Entry → List (Option Node) → ℕ → List ℕ → Bool → Type 0
AnswersAt k es cells place key answer =
    (at : ℕ → Option (List ℕ)) → IsPart at (key_in k cells) → AreOrdered at es →
    answer ≡ is_key_at k cells (numbers_of es) place key

-- a list tells whether one of its cells has a key, by the entries around the place where an entry with the key goes
abbrev pub AnswersAround : KeyKind → List Entry → List (Option Node) → ℕ → List ℕ → Bool → Type 0
AnswersAround k es cells place key answer =
    (c : List (Option Node)) → IsPart (key_in k c) (key_in k cells) → AreOrdered (key_in k c) es →
    (x : ℕ) → IsGap (key_in k c) (numbers_of es) (key, x) place → answer ≡ is_held k c key
