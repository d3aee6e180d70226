-- The indexes that a tree keeps of its keys.
use Rattle.std.specs.Prelude.{◌≡◌, ℕ, ◌+◌, ◌≤◌, Bool, false, cond, List, length, Option, Some, None}
use Rattle.mls_leaf.specs.declared.leaf.LeafNode.{LeafNode}
use Rattle.mls_leaf.specs.declared.node.Node.{Node}
use Rattle.mls_tree_index.specs.declared.kind.KeyKind.{KeyKind}
use Rattle.mls_tree_index.specs.declared.kind.KeyKind.TheVariants.{Encryption, Signature}
use Rattle.mls_tree_index.specs.BlankedCells.{cells_without}
use Rattle.mls_tree_index.specs.Keys.{key_in}
use Rattle.mls_tree_index.specs.Indexes.{Indexes, SameIndex}
use Rattle.mls_tree.specs.declared.key_indexes.KeyIndexes.{KeyIndexes}
use Rattle.mls_tree_model.specs.Term.{Term}
use Rattle.mls_tree_model.specs.Arrays.{term_of}
use Rattle.mls_tree_array.specs.Standing.{Stands}

-- both are of these cells
pub record AreIndexes (cells : List (Option Node)) (t : KeyIndexes) : Type 0 where
  pub encryption : t.keys.kind ≡ Encryption
  pub signature : t.clients.kind ≡ Signature
  pub keys : Indexes cells t.keys
  pub clients : Indexes cells t.clients

-- both have so much room
pub record HaveRoom (n : ℕ) (t : KeyIndexes) : Type 0 where
  pub keys : n ≤ t.keys.room
  pub clients : n ≤ t.clients.room

-- all but n of the room is left
abbrev pub LeavesRoom : ℕ → KeyIndexes → KeyIndexes → Type 0
LeavesRoom n old new = (m : ℕ) → HaveRoom (m + n) old → HaveRoom m new

-- neither shares its blocks with a copy
pub record AreOwn (t : KeyIndexes) : Type 0 where
  pub keys : t.keys.shared ≡ false
  pub clients : t.clients.shared ≡ false

-- where they shared nothing, they still share nothing
abbrev pub StayOwn : KeyIndexes → KeyIndexes → Type 0
StayOwn old new = AreOwn old → AreOwn new

-- they are the same except for their memory
pub record AreSame (s t : KeyIndexes) : Type 0 where
  pub keys : SameIndex s.keys t.keys
  pub clients : SameIndex s.clients t.clients

-- c has the keys of b, and those of cell x, which has none in b
pub record Fills (x : ℕ) (b c : List (Option Node)) : Type 0 where
  pub long : length b ≡ length c
  pub blank : (k : KeyKind) → key_in k b x ≡ None
  pub others : (k : KeyKind) (y : ℕ) → (y ≡ x → ⊥) → key_in k b y ≡ key_in k c y

-- a leaf that may be missing has this signature key
abbrev pub IsClient : List ℕ → Option LeafNode → Type 0
IsClient key None = ⊥
IsClient key (Some v) = v.signature_key ≡ key

-- the index of keys is of the cells except for those at some places, that of clients too, or of all cells where it is
-- kept
pub record AreBeside (kept : Bool) (places : List ℕ) (cells : List (Option Node)) (t : KeyIndexes) : Type 0 where
  pub encryption : t.keys.kind ≡ Encryption
  pub signature : t.clients.kind ≡ Signature
  pub keys : Indexes (cells_without 0 places cells) t.keys
  pub clients : Indexes (cond kept cells (cells_without 0 places cells)) t.clients

-- indexes of some cells have become those of others
abbrev pub KeepsIndexes : List (Option Node) → List (Option Node) → KeyIndexes → KeyIndexes → Type 0
KeepsIndexes before after old new = AreIndexes before old → AreIndexes after new

-- a cell that was filled has entered the indexes
abbrev pub EntersNode : ℕ → List (Option Node) → KeyIndexes → KeyIndexes → Type 0
EntersNode x cells old new = (b : List (Option Node)) → Fills x b cells → AreIndexes b old → AreIndexes cells new

-- the cells at some places have left the indexes
abbrev pub LeavesNodes : List ℕ → List (Option Node) → KeyIndexes → KeyIndexes → Type 0
LeavesNodes places cells old new = KeepsIndexes cells (cells_without 0 places cells) old new

-- the cells at some places have entered the indexes
abbrev pub EntersNodes : List ℕ → List (Option Node) → KeyIndexes → KeyIndexes → Type 0
EntersNodes places cells old new = KeepsIndexes (cells_without 0 places cells) cells old new

-- the indexes tell of a test of a tree how it ends for theirs
abbrev pub AnswersTest : (Term → Bool) → KeyIndexes → Bool → Type 0
AnswersTest test t answer =
    (h : ℕ) (cells : List (Option Node)) → Stands h cells → AreIndexes cells t → answer ≡ test (term_of h cells)
