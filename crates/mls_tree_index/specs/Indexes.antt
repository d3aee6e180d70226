-- What an index is of some cells.
use Rattle.std.specs.Prelude.{◌≡◌, ◌≤◌, ◌∷◌, ◌++◌, ℕ, List, length, Option, None, true, Bool}
use Rattle.mls_leaf.specs.declared.node.Node.{Node}
use Rattle.mls_tree_index.specs.declared.kind.KeyKind.{KeyKind}
use Rattle.mls_tree_index.specs.declared.entry.Entry.{Entry}
use Rattle.mls_tree_index.specs.Keys.{key_in, keys_of, repeats_in, is_held}
use Rattle.mls_tree_index.specs.Order.{IsPart}
use Rattle.mls_tree_index.specs.Entries.{AreOrdered}
use Rattle.mls_tree_model.specs.Sets.{same_bytes, is_distinct}

-- an index: the entries of cells, how many keys repeat, how many spare blocks edits may take, and whether copies may
-- share it
pub record Listing : Type 0 where
  pub kind : KeyKind
  pub entries : List Entry
  pub repeats : ℕ
  pub room : ℕ
  pub shared : Bool

-- the index of these cells
pub record Indexes (cells : List (Option Node)) (t : Listing) : Type 0 where
  pub entries : AreOrdered (key_in t.kind cells) t.entries
  pub repeats : t.repeats ≡ repeats_in (keys_of t.kind cells)

-- where copies may share an index, there is room for so many cells to leave it
abbrev pub CanLeave : ℕ → Listing → Type 0
CanLeave n t = t.shared ≡ true → n ≤ t.room

-- one except for its memory
pub record SameIndex (s t : Listing) : Type 0 where
  pub kind : t.kind ≡ s.kind
  pub entries : t.entries ≡ s.entries
  pub repeats : t.repeats ≡ s.repeats

-- c has keys of some cells, among them that of cell x, which b alone lacks
pub record Without (k : KeyKind) (x : ℕ) (cells b c : List (Option Node)) : Type 0 where
  pub wide : length c ≡ length cells
  pub long : length b ≡ length c
  pub part : IsPart (key_in k c) (key_in k cells)
  pub here : key_in k c x ≡ key_in k cells x
  pub blank : key_in k b x ≡ None
  pub others : (y : ℕ) → (y ≡ x → ⊥) → key_in k b y ≡ key_in k c y

-- what holds where an index is of these cells, and no two of them have one key
abbrev pub OnDistinct : List (Option Node) → Listing → Type 0 → Type 0
OnDistinct cells t Fact = Indexes cells t → is_distinct same_bytes (keys_of t.kind cells) ≡ true → Fact

-- an index tells whether no two of its cells have one key
abbrev pub AnswersDistinct : Listing → Bool → Type 0
AnswersDistinct t answer = (c : List (Option Node)) → Indexes c t → answer ≡ is_distinct same_bytes (keys_of t.kind c)

-- an index tells whether one of its cells has a key, where the given cells have all the keys of its cells
abbrev pub AnswersHeld : Listing → List (Option Node) → List ℕ → Bool → Type 0
AnswersHeld t cells key answer =
    (c : List (Option Node)) → IsPart (key_in t.kind c) (key_in t.kind cells) → AreOrdered (key_in t.kind c) t.entries →
    answer ≡ is_held t.kind c key

-- an index tells whether no two of some keys and those of its cells are one, where the given cells have all the keys of
-- its cells
abbrev pub AnswersNew : Listing → List (Option Node) → List ℕ → List (List ℕ) → Bool → Type 0
AnswersNew t cells key keys answer =
    (c : List (Option Node)) → IsPart (key_in t.kind c) (key_in t.kind cells) → Indexes c t →
    answer ≡ is_distinct same_bytes (key ∷ (keys ++ keys_of t.kind c))

-- from one index to the other cell x was entered
abbrev pub EntersCell : ℕ → List (Option Node) → Listing → Listing → Type 0
EntersCell x cells old new = (b c : List (Option Node)) → Without old.kind x cells b c → Indexes b old → Indexes c new

-- from one index to the other cell x was taken out
abbrev pub LeavesCell : ℕ → List (Option Node) → Listing → Listing → Type 0
LeavesCell x cells old new = (b c : List (Option Node)) → Without old.kind x cells b c → Indexes c old → Indexes b new
