-- Edits of cells that stand side by side.
use Rattle.std.specs.Prelude.{◌≡◌, ℕ, Bool, true, false, [], ◌∷◌, ◌++◌, take, replicate, slice_set, Option, None, is_some}
use Rattle.std.specs.List.{All}
use Rattle.mls_leaf.specs.declared.node.Node.{Node}
use Rattle.mls_tree_cells.specs.Cells.{CellList}

-- a hash is kept beside each cell
abbrev pub IsWarm : CellList → Type 0
IsWarm r = All (λ h. is_some h ≡ true) r.hashes

-- whether one is kept beside each
abbrev pub AnswersWarm : CellList → Bool → Type 0
AnswersWarm r true = IsWarm r
AnswersWarm r false = IsWarm r → ⊥

-- a slot was put into a cell, which became cold
pub record SetsSlot (x : ℕ) (slot : Option Node) (old new : CellList) : Type 0 where
  pub nodes : new.nodes ≡ slice_set old.nodes x slot
  pub hashes : new.hashes ≡ slice_set old.hashes x None

-- a cold cell was added
pub record AddsCell (slot : Option Node) (old new : CellList) : Type 0 where
  pub nodes : new.nodes ≡ old.nodes ++ slot ∷ []
  pub hashes : new.hashes ≡ old.hashes ++ None ∷ []

-- so many blank cold cells were added
pub record AddsBlanks (count : ℕ) (old new : CellList) : Type 0 where
  pub nodes : new.nodes ≡ old.nodes ++ replicate count None
  pub hashes : new.hashes ≡ old.hashes ++ replicate count None

-- the first cells
abbrev pub first_cells : ℕ → CellList → CellList
first_cells n r = record { nodes = take n r.nodes; hashes = take n r.hashes }
