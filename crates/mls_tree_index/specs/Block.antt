-- Blocks of entries that copies may share.
use Rattle.std.specs.Prelude.{◌≡◌, ℕ, ◌≤◌, Bool, true, false, List, []}
use Rattle.std.specs.Global.{Vec}
use Rattle.std.specs.Vec.{vec_len, vec_capacity}
use Rattle.mls_tree_index.specs.declared.entry.Entry.{Entry}
use Rattle.mls_tree_index.specs.declared.block.Holder.{Holder}
use Rattle.mls_tree_index.specs.declared.block.Holder.TheVariants.{Own, Shared}

-- how many entries a block has at most
abbrev pub block_size : ℕ
block_size = 512

-- how many entries each half of a full block has
abbrev pub half_size : ℕ
half_size = 256

-- the entries of a block, and whether copies may share it
pub record BlockEntries : Type 0 where
  pub entries : List Entry
  pub shared : Bool

-- a block with memory for as many entries as a block has at most
pub record IsBlock (v : Vec Entry) : Type 0 where
  pub few : vec_len v ≤ block_size
  pub capacity : block_size ≤ vec_capacity v

-- a block with no entry, and memory for as many as a block has at most
pub record IsSpare (v : Vec Entry) : Type 0 where
  pub items : v.items ≡ []
  pub none : vec_len v ≡ 0
  pub capacity : block_size ≤ vec_capacity v

-- the entries that are held
abbrev pub entries_in : Holder → List Entry
entries_in (Own v) = v.items
entries_in (Shared s) = s.value.items

-- whether copies may share them
abbrev pub is_shared : Holder → Bool
is_shared (Own v) = false
is_shared (Shared s) = true

-- what is held is a block
abbrev pub IsHeld : Holder → Type 0
IsHeld (Own v) = IsBlock v
IsHeld (Shared s) = IsBlock s.value
