-- Which nodes of a tree have no kept hash, and what calls make of them.
use Rattle.std.specs.Prelude.{◌≡◌, ℕ, suc, ◌+◌, ◌-◌, ◌*◌, ◌<◌, ◌≤◌, nat_le, Bool, true, ◌||◌, List, [], ◌∷◌, length}
use Rattle.mls_tree_model.specs.Sets.{has}
use Rattle.mls_tree_model.specs.Term.{Term, size, height}
use Rattle.mls_tree_model.specs.Edits.{first_blank, room_for}
use Rattle.mls_tree_hash.specs.Counter.{counted}
use Rattle.mls_tree_array.specs.KeptHashes.{is_cold_at, cold_places, nodes_upward}
use Rattle.mls_tree.specs.Tree.{Tree, term}

-- whether a node has no kept hash
abbrev pub is_cold : Tree → ℕ → Bool
is_cold t n = is_cold_at t.hashes n

-- how many nodes have none
abbrev pub cold_nodes : Tree → ℕ
cold_nodes t = cold_places t.hashes

-- All nodes of a new tree are cold.
pub record IsNewTree (t : Tree) : Type 0 where
  pub each : (n : ℕ) → n < size (term t) → is_cold t n ≡ true
  pub count : cold_nodes t ≡ size (term t)
  pub done : t.hash_count ≡ 0

-- A call that asks for hashes keeps those that it makes: no node becomes cold, and the counter rises by as many as are
-- cold no more.
pub record Warms (old new : Tree) : Type 0 where
  pub each : (n : ℕ) → is_cold new n ≡ true → is_cold old n ≡ true
  pub fewer : cold_nodes new ≤ cold_nodes old
  pub done : new.hash_count ≡ counted old.hash_count (cold_nodes old - cold_nodes new)

-- An edit of leaf i makes its node cold, the nodes over it in the tree t, and those that a doubling adds; nodes that
-- are cut off are counted no more. So it is settled which nodes are cold, and how many.
pub record Chills (t : Term) (i : ℕ) (old new : Tree) : Type 0 where
  pub each : (n : ℕ) → n < size (term new) → is_cold new n ≡ (is_cold old n || (nat_le (size (term old)) n || has (nodes_upward 0 t i) n))
  pub whole : length new.hashes ≡ size (term new)
  pub few : cold_nodes new ≤ cold_nodes old + suc (height t) + (size (term new) - size (term old))
  pub done : new.hash_count ≡ old.hash_count

-- A call warms nodes of a tree, and then edits leaf i.
abbrev pub WarmsThenChills : ℕ → Tree → Tree → Type 0
WarmsThenChills i old new = (between : Tree) × Warms old between × (term between ≡ term old) × Chills (term old) i between new

-- A call edits leaf i of a tree, and then warms nodes.
abbrev pub ChillsThenWarms : ℕ → Tree → Tree → Type 0
ChillsThenWarms i old new = (between : Tree) × Chills (term old) i old between × (term between ≡ term new) × Warms between new

-- A call adds leaf i to a tree, which is doubled where it has no blank one.
abbrev pub AddChills : Tree → Tree → ℕ → Type 0
AddChills old new = λ i. Chills (room_for (first_blank 0 (term old)) (term old)) i old new

-- ---- what hashing costs

-- a call that asks for hashes, or that edits leaf i of a tree
pub data Call : Type 0 where
  Asks : Call
  Edits : Term → ℕ → Call

-- what it makes of a tree, where no tree is higher than h
abbrev pub Makes : ℕ → Tree → Call → Tree → Type 0
Makes h old Asks new = Warms old new
Makes h old (Edits t i) new = (height t ≤ h) × Chills t i old new

-- calls, each with the tree after it
pub record Called : Type 0 where
  pub call : Call
  pub after : Tree

-- what calls one after another make of a tree
unfoldable pub MakesAll : ℕ → Tree → List Called → Type 0
MakesAll h old [] = Unit {0}
MakesAll h old (c ∷ calls) = Makes h old c.call c.after × MakesAll h c.after calls

-- the tree after them
unfoldable pub last_of : Tree → List Called → Tree
last_of old [] = old
last_of old (c ∷ calls) = last_of c.after calls

-- one where a call is an edit
abbrev pub one_edit : Call → ℕ
one_edit Asks = 0
one_edit (Edits t i) = 1

-- how many of some calls are edits
unfoldable pub edits : List Called → ℕ
edits [] = 0
edits (c ∷ calls) = one_edit c.call + edits calls

-- how many nodes a call adds where it doubles the tree
abbrev pub one_doubling : Tree → Call → Tree → ℕ
one_doubling old Asks new = 0
one_doubling old (Edits t i) new = size (term new) - size (term old)

-- how many nodes the doublings of some calls add
unfoldable pub doubled : Tree → List Called → ℕ
doubled old [] = 0
doubled old (c ∷ calls) = one_doubling old c.call c.after + doubled c.after calls

-- After a tree hash, k edits with hashes asked for at any points cost at most k * (h + 1) + d hashes of nodes, where no
-- tree was higher than h and doublings added d nodes.
abbrev pub FewHashes : Type 0
FewHashes =
    (h : ℕ) (t : Tree) (calls : List Called) → cold_nodes t ≡ 0 → MakesAll h t calls → (last_of t calls).hash_count ≤ t.hash_count + (edits calls * suc h + doubled t calls)
