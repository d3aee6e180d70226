-- A secret tree, and what it is after a key was taken (RFC 9420, 9 and 9.2).
use Rattle.std.specs.Prelude.{◌≡◌, ℕ, ◌^◌, nat_lt, Bool, if◌then◌else◌, List, Option, Some, None, Result, Ok, Err}
use Rattle.mls_wire.specs.Reading.{◌>>=◌}
use Rattle.mls_treemath.specs.Paths.{leaf_path}
use Rattle.mls_secret_tree.specs.declared.secrets.MessageKey.{MessageKey}
use Rattle.mls_secret_tree.specs.Held.{Held, Whole, take_below, put_below, next_below, is_whole}

-- a tree of 2 ^ height leaves, and what is held below its root
pub record Tree : Type 0 where
  pub height : ℕ
  pub root : Held

-- a key that is taken from a tree once it is kept: of which leaf it is, and what will be held
pub record Drafted : Type 0 where
  pub leaf : ℕ
  pub key : MessageKey
  pub held : Held

-- the tree at first holds the encryption secret alone (RFC 9420, 9)
unfoldable pub first_tree : List ℕ → ℕ → Tree
first_tree encryption_secret height = record { height = height; root = Whole encryption_secret }

-- whether no key was used yet
unfoldable pub is_fresh : Tree → Bool
is_fresh t = is_whole t.root

-- the key of a leaf in a generation: `SenderWithoutLeaf` (114) outside the tree, `GenerationTooFar` (115) beyond the
-- window, `KeyUsed` (116) where it was used or is gone
unfoldable pub draft_key : Tree → ℕ → ℕ → Result Drafted ℕ
draft_key t leaf generation =
    if nat_lt leaf (2 ^ t.height)
    then (take_below t.root (leaf_path t.height leaf) generation
    >>= λ taken. Ok (record { leaf = leaf; key = taken.0; held = taken.1 }))
    else Err 114

-- the tree after a drafted key was used: what the key was derived from is replaced
unfoldable pub keep_draft : Tree → Drafted → Tree
keep_draft t d =
    record { height = t.height; root = put_below t.root (leaf_path t.height d.leaf) d.held }

-- the generation, where 32 bits suffice for it
unfoldable pub in_32_bits : ℕ → Option ℕ
in_32_bits generation = if nat_lt generation (2 ^ 32) then Some generation else None

-- the first generation of a leaf of which no key was made yet: none outside the tree, and none after the last
unfoldable pub next_generation : Tree → ℕ → Option ℕ
next_generation t leaf =
    if nat_lt leaf (2 ^ t.height) then in_32_bits (next_below t.root (leaf_path t.height leaf))
    else None

-- a call answers the tree at first, where its leaves make a tree of some height
abbrev pub IsFirstTree : List ℕ → Option ℕ → Option Tree → Type 0
IsFirstTree encryption_secret None result = result ≡ None
IsFirstTree encryption_secret (Some height) result =
    result ≡ Some (first_tree encryption_secret height)
