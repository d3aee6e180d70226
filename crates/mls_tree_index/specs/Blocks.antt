-- Lists of entries in blocks, seen as one list.
use Rattle.std.specs.Prelude.{◌≡◌, ℕ, suc, ◌+◌, ◌-◌, ◌*◌, ◌<◌, ◌≤◌, min, Bool, true, false, cond, List, [], ◌∷◌, ◌++◌, length, take, drop, map, get_or, set, Option, Some, None}
use Rattle.std.specs.Global.{Vec}
use Rattle.std.specs.List.{All, insert, list_any, remove}
use Rattle.std.specs.Vec.{vec_len, vec_capacity}
use Rattle.mls_tree_index.specs.Block.{BlockEntries, IsSpare, block_size, half_size}
use Rattle.mls_tree_index.specs.Entries.{blank_entry}
use Rattle.mls_tree_index.specs.declared.blocks.Spot.{Spot}
use Rattle.mls_tree_index.specs.declared.entry.Entry.{Entry}

-- the blocks, how many spare ones their edits may take, and whether copies may share one of the blocks
pub record BlockList : Type 0 where
  pub blocks : List (List Entry)
  pub room : ℕ
  pub shared : Bool

-- the entries of blocks, one block behind the other
abbrev pub joined : List (List Entry) → List Entry
joined [] = []
joined (x ∷ bs) = x ++ joined bs

-- the entries of each block
abbrev pub blocks_of : List BlockEntries → List (List Entry)
blocks_of vs = map (λ v. v.entries) vs

-- whether copies may share one of some blocks
abbrev pub are_shared : List BlockEntries → Bool
are_shared vs = list_any (λ v. v.shared) vs

-- how many more entries fit into each of some blocks
unfoldable pub least_free : List (List Entry) → ℕ
least_free [] = block_size
least_free (x ∷ bs) = min (block_size - length x) (least_free bs)

-- how many spare blocks edits may take: those that there are or, where no block is shared, so many that entries may enter
-- the free places of a block before they take them, at two for an entry
abbrev pub room_of : Bool → List (List Entry) → ℕ → ℕ
room_of shared bs spares = cond shared spares (2 * (spares + least_free bs))

-- a block of a list is one's own
abbrev pub IsOwnAt : List BlockEntries → ℕ → Type 0
IsOwnAt vs b = get_or (map (λ v. v.shared) vs) b true ≡ false

-- there is a first block, and each other one has an entry
abbrev pub AreBlocks : List (List Entry) → Type 0
AreBlocks [] = ⊥
AreBlocks (x ∷ bs) = All (λ v. 0 < length v) bs

-- what holds of a list of blocks and its spare blocks, for which it has memory
pub record AreKept (list : Vec BlockEntries) (spares : Vec (Vec Entry)) : Type 0 where
  pub blocks : AreBlocks (blocks_of list.items)
  pub spare : All IsSpare spares.items
  pub room : vec_len list + vec_len spares ≤ vec_capacity list

-- blocks of which one is split in two behind its lower half
abbrev pub split_at : List (List Entry) → ℕ → List (List Entry)
split_at bs b = insert (set bs b (take half_size (get_or bs b []))) (suc b) (drop half_size (get_or bs b []))

-- a block of these entries was added at the end
abbrev pub PushesBlock : List Entry → List BlockEntries → List BlockEntries → Type 0
PushesBlock es old new = blocks_of new ≡ blocks_of old ++ es ∷ []

-- how many entries stand before an offset of a block
abbrev pub place_in : List (List Entry) → ℕ → ℕ → ℕ
place_in bs b offset = length (joined (take b bs)) + offset

-- how many entries stand before a place
abbrev pub place_of : List (List Entry) → Spot → ℕ
place_of bs s = place_in bs s.block s.offset

-- a place of some blocks
pub record IsSpot (bs : List (List Entry)) (s : Spot) : Type 0 where
  pub block : s.block < length bs
  pub offset : s.offset ≤ length (get_or bs s.block [])

-- a place of a block that has fewer entries than it may have
pub record IsOpenAt (bs : List (List Entry)) (s : Spot) : Type 0 where
  pub block : s.block < length bs
  pub offset : s.offset ≤ length (get_or bs s.block [])
  pub few : length (get_or bs s.block []) < block_size

-- a place isn't before the first entry of a block but that of the first block
abbrev pub IsInner : Spot → Type 0
IsInner s = s.offset ≡ 0 → s.block ≡ 0

-- the first entry of a block
abbrev pub first_of : List (List Entry) → ℕ → Entry
first_of bs b = get_or (get_or bs b []) 0 blank_entry

-- the entry at a place of a list, where there is one
abbrev pub IsEntryAt : List Entry → ℕ → Option Entry → Type 0
IsEntryAt es p None = length es ≤ p
IsEntryAt es p (Some e) = (p < length es) × (get_or es p blank_entry ≡ e)

-- an entry was put at a place
abbrev pub PutsEntry : Spot → Entry → BlockList → BlockList → Type 0
PutsEntry s e old new = joined new.blocks ≡ insert (joined old.blocks) (place_of old.blocks s) e

-- the entry behind a place was taken out
abbrev pub TakesEntry : Spot → BlockList → BlockList → Type 0
TakesEntry s old new = joined new.blocks ≡ remove (joined old.blocks) (place_of old.blocks s)
