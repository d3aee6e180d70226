-- Cells in chunks, with a top behind each but the last one.
use Rattle.std.specs.Prelude.{◌≡◌, ℕ, ◌/◌, ◌%◌, ◌<◌, ◌≤◌, Bool, true, false, List, [], ◌∷◌, ◌++◌, length, get_or, map, Option}
use Rattle.mls_leaf.specs.declared.node.Node.{Node}
use Rattle.mls_tree_cells.specs.Cells.{CellList}
use Rattle.mls_tree_cells.specs.Chunks.{ChunkRow}

-- how many cells a chunk has with the top behind it
abbrev pub chunk_size : ℕ
chunk_size = 256

-- how many cells a chunk has without it
abbrev pub row_size : ℕ
row_size = 255

-- the elements of chunks, with a top behind each chunk but the last one
abbrev pub interleave : {A : Type 0} → List (List A) → List A → List A
interleave [] ts = []
interleave (c ∷ cs) [] = c
interleave (c ∷ cs) (t ∷ ts) = c ++ (t ∷ interleave cs ts)

-- each chunk is full, but the last one, and there is one chunk more than tops
abbrev pub AreSpread : {A : Type 0} → List (List A) → List A → Type 0
AreSpread [] ts = ⊥
AreSpread (c ∷ cs) [] = (cs ≡ []) × (length c ≤ row_size)
AreSpread (c ∷ cs) (t ∷ ts) = (length c ≡ row_size) × AreSpread cs ts

-- the rows of chunks
abbrev pub rows_of : List ChunkRow → List CellList
rows_of cs = map (λ c. c.row) cs

-- whether copies may share each chunk
abbrev pub shares_of : List ChunkRow → List Bool
shares_of cs = map (λ c. c.shared) cs

-- the nodes of each row
abbrev pub nodes_of : List CellList → List (List (Option Node))
nodes_of rs = map (λ r. r.nodes) rs

-- the hashes kept beside them
abbrev pub hashes_of : List CellList → List (List (Option (List ℕ)))
hashes_of rs = map (λ r. r.hashes) rs

-- the cells of rows and of the tops behind them
abbrev pub all_cells : List CellList → CellList → CellList
all_cells rs tops =
    record { nodes = interleave (nodes_of rs) tops.nodes; hashes = interleave (hashes_of rs) tops.hashes }

-- what holds of rows and the tops behind them
pub record AreParts (rs : List CellList) (tops : CellList) : Type 0 where
  pub nodes : AreSpread (nodes_of rs) tops.nodes
  pub hashes : AreSpread (hashes_of rs) tops.hashes
  pub long : length (interleave (hashes_of rs) tops.hashes) ≡ length (interleave (nodes_of rs) tops.nodes)

-- all cells, and whether copies may share each chunk
pub record PartList : Type 0 where
  pub cells : CellList
  pub shares : List Bool

-- the chunk of a cell isn't shared, or the cell is a top
abbrev pub IsOpen : List Bool → ℕ → Type 0
IsOpen shares x = x % chunk_size < row_size → get_or shares (x / chunk_size) true ≡ false

-- what was open is open still
abbrev pub StaysOpen : List Bool → List Bool → Type 0
StaysOpen old new = (x : ℕ) → IsOpen old x → IsOpen new x

-- so many cells end in the last chunk
pub record EndsIn (count : ℕ) (cells : CellList) : Type 0 where
  pub nodes : count ≤ length cells.nodes
  pub hashes : length cells.hashes ≡ length cells.nodes
  pub last : length cells.nodes / chunk_size ≡ count / chunk_size
