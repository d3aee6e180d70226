-- Rows that copies may share.
use Rattle.std.specs.Prelude.{Bool, true, false}
use Rattle.mls_tree_cells.specs.Cells.{CellList}
use Rattle.mls_tree_cells.specs.Rows.{IsWarm}
use Rattle.mls_tree_cells.specs.declared.chunks.Holder.{Holder}
use Rattle.mls_tree_cells.specs.declared.chunks.Holder.TheVariants.{Own, Shared}

-- a row, and whether copies may share it
pub record ChunkRow : Type 0 where
  pub row : CellList
  pub shared : Bool

-- the row that is held
abbrev pub row_of : Holder → CellList
row_of (Own r) = r
row_of (Shared s) = s.value

-- whether copies may share it
abbrev pub is_shared : Holder → Bool
is_shared (Own r) = false
is_shared (Shared s) = true

-- beside each cell of a shared row a hash is kept
abbrev pub IsHeld : Holder → Type 0
IsHeld (Own r) = Unit {0}
IsHeld (Shared s) = IsWarm s.value
