-- What a secret tree holds: along the ways to leaves whose keys were needed, the secrets beside the way and the leaf's
-- ratchet; elsewhere the secret of a node, with none below it (RFC 9420, 9 and 9.2).
use Rattle.std.specs.Prelude.{ℕ, suc, max, Bool, true, false, not, List, [], ◌∷◌, Result, Ok, Err}
use Rattle.mls_wire.specs.Reading.{◌>>=◌}
use Rattle.mls_treemath.specs.Paths.{Path}
use Rattle.mls_secret_tree.specs.declared.secrets.MessageKey.{MessageKey}
use Rattle.mls_secret_tree.specs.Secrets.{child_secret}
use Rattle.mls_secret_tree.specs.Ratchet.{Ratcheting, first_ratchet, take_key}

-- what is held for the leaves below a node
pub data Held : Type 0 where
  -- the node's secret
  Whole : List ℕ → Held
  -- the leaf's ratchet, and its node secret no more
  LeafRatchet : Ratcheting → Held
  -- what is held below each child, and the node's secret no more
  Parted : Held → Held → Held

-- what a key is taken from: the key, and what is held in place of what it was derived from
abbrev pub Taken : Type 0
Taken = MessageKey × Held

-- what a key is taken from below a node, with what is held below its other child
unfoldable pub beside : Bool → Held → Taken → Taken
beside false other taken = (taken.0, Parted taken.1 other)
beside true other taken = (taken.0, Parted other taken.1)

-- the key of a generation, taken from a ratchet, with the ratchet behind it
unfoldable pub take_from_ratchet : Ratcheting → ℕ → Result Taken ℕ
take_from_ratchet r generation = take_key r generation >>= λ t. Ok (t.0, LeafRatchet t.1)

-- the key of a generation, taken from a node's secret at the end of a way down from it: the secrets beside the way
-- stay, those on it don't (RFC 9420, 9 and 9.2)
unfoldable pub take_whole : List ℕ → Path → ℕ → Result Taken ℕ
take_whole secret [] generation = take_from_ratchet (first_ratchet secret) generation
take_whole secret (side ∷ way) generation =
    take_whole (child_secret side secret) way generation
    >>= λ t. Ok (beside side (Whole (child_secret (not side) secret)) t)

-- the key of a generation, taken from what is held at the end of a way, or above it; `SenderWithoutLeaf` (114) where
-- the way is too short to lead to a leaf
unfoldable pub take_below : Held → Path → ℕ → Result Taken ℕ
take_below (Whole secret) way generation = take_whole secret way generation
take_below (LeafRatchet r) way generation = take_from_ratchet r generation
take_below (Parted left right) [] generation = Err 114
take_below (Parted left right) (false ∷ way) generation = take_below left way generation
take_below (Parted left right) (true ∷ way) generation = take_below right way generation

-- what is held once this stands in place of what is held at the end of a way, or above it
unfoldable pub put_below : Held → Path → Held → Held
put_below (Whole secret) way new = new
put_below (LeafRatchet r) way new = new
put_below (Parted left right) [] new = new
put_below (Parted left right) (false ∷ way) new = Parted (put_below left way new) right
put_below (Parted left right) (true ∷ way) new = Parted left (put_below right way new)

-- the first generation of a leaf of which no key was made yet
unfoldable pub next_below : Held → Path → ℕ
next_below (Whole secret) way = 0
next_below (LeafRatchet r) way = r.next
next_below (Parted left right) [] = 0
next_below (Parted left right) (false ∷ way) = next_below left way
next_below (Parted left right) (true ∷ way) = next_below right way

-- whether the secret of the node itself is held still
unfoldable pub is_whole : Held → Bool
is_whole (Whole secret) = true
is_whole (LeafRatchet r) = false
is_whole (Parted left right) = false

-- how many steps down anything is held
unfoldable pub depth : Held → ℕ
depth (Whole secret) = 0
depth (LeafRatchet r) = 0
depth (Parted left right) = suc (max (depth left) (depth right))
