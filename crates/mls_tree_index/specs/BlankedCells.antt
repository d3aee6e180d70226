-- Cells of which some are blanked.
use Rattle.std.specs.Prelude.{◌≡◌, ℕ, suc, true, cond, List, [], ◌∷◌, ◌++◌, length, Option, None, Bool, Result, IfOk}
use Rattle.mls_leaf.specs.declared.node.Node.{Node}
use Rattle.mls_tree_model.specs.Sets.{has, same_bytes, is_distinct}
use Rattle.mls_tree_index.specs.declared.kind.KeyKind.{KeyKind}
use Rattle.mls_tree_index.specs.Keys.{key_in, keys_of, is_held}
use Rattle.mls_tree_index.specs.Order.{IsPart}
use Rattle.mls_tree_index.specs.Indexes.{Listing, Indexes, OnDistinct}

-- cells, the first with number b, without those at some numbers
unfoldable pub cells_without : ℕ → List ℕ → List (Option Node) → List (Option Node)
cells_without b ns [] = []
cells_without b ns (c ∷ cs) = cond (has ns b) None c ∷ cells_without (suc b) ns cs

-- c has keys of some cells, among them all those at some numbers
pub record HasPlaces (k : KeyKind) (ns : List ℕ) (cells c : List (Option Node)) : Type 0 where
  pub wide : length c ≡ length cells
  pub part : IsPart (key_in k c) (key_in k cells)
  pub here : (x : ℕ) → has ns x ≡ true → key_in k c x ≡ key_in k cells x

-- an index of cells with distinct keys tells whether a cell at none of some places has a key
abbrev pub AnswersHeldBeside : Listing → List (Option Node) → List ℕ → List ℕ → Bool → Type 0
AnswersHeldBeside t cells places key answer =
    OnDistinct cells t (answer ≡ is_held t.kind (cells_without 0 places cells) key)

-- whether no two of some keys and those of the cells at none of some places are one
abbrev pub are_new_beside : KeyKind → List ℕ → List (Option Node) → List ℕ → List (List ℕ) → Bool
are_new_beside k places cells key keys =
    is_distinct same_bytes (key ∷ (keys ++ keys_of k (cells_without 0 places cells)))

-- an index of cells with distinct keys tells whether no two of some keys and those of the cells at none of some places
-- are one
abbrev pub AnswersNewBeside : Listing → List (Option Node) → List ℕ → List ℕ → List (List ℕ) → Bool → Type 0
AnswersNewBeside t cells places key keys answer =
    OnDistinct cells t (answer ≡ are_new_beside t.kind places cells key keys)

-- where an index of cells answers, it tells whether no two of some keys and those of the cells at none of some places
-- are one
abbrev pub AcceptsBeside : {E : Type 0} → Listing → List (Option Node) → List ℕ → List ℕ → List (List ℕ) → Result Bool E → Type 0
AcceptsBeside t cells places key keys result =
    Indexes cells t → IfOk result (λ b. b ≡ are_new_beside t.kind places cells key keys)

-- from one index to the other the cells at some places were taken out
abbrev pub LeavesCells : List ℕ → List (Option Node) → Listing → Listing → Type 0
LeavesCells places cells old new =
    (c : List (Option Node)) → HasPlaces old.kind places cells c → Indexes c old → Indexes (cells_without 0 places c) new

-- from one index to the other the cells at some places were entered
abbrev pub EntersCells : List ℕ → List (Option Node) → Listing → Listing → Type 0
EntersCells places cells old new =
    (c : List (Option Node)) → HasPlaces old.kind places cells c → Indexes (cells_without 0 places c) old → Indexes c new
