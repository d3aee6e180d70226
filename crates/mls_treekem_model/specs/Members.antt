-- The keys of a member from call to call.
use Rattle.std.specs.Prelude.{◌≡◌, ℕ, ◌≤◌, true, List, [], ◌∷◌, map, length, Some, None, Ok, is_some, false}
use Rattle.mls_types.specs.declared.update_path.UpdatePathNode.{UpdatePathNode}
use Rattle.mls_leaf.specs.declared.leaf.LeafNode.{LeafNode}
use Rattle.mls_suite.specs.Crypto.{Crypto, Lawful}
use Rattle.mls_tree_model.specs.Term.{Term, is_perfect, leaf_at}
use Rattle.mls_tree_model.specs.Way.{way, filtered_path, path_length}
use Rattle.mls_tree_model.specs.Edits.{put}
use Rattle.mls_tree_model.specs.Merge.{merge_path}
use Rattle.mls_treekem_model.specs.Make.{climb_to, HasMade, Climb}
use Rattle.mls_treekem_model.specs.Height.{as_pairs, ArePairs, HasFollowed}
use Rattle.mls_treekem_model.specs.Join.{take_answer, has_due, secret_for}
use Rattle.mls_treekem_model.specs.Keys.{Exact, PrivateKeys, all_keys, keys_on, HasExact}
use Rattle.mls_treekem_model.specs.Laws.{AreTwo}
use Rattle.mls_treekem_model.specs.Open.{opened_secret, opened_path}
use Rattle.mls_treekem_model.specs.Seal.{sealed_path}
use Rattle.mls_treekem_model.specs.Pairs.{find_key, IsInOrder}
use Rattle.mls_treekem_model.specs.Lists.{ListsBelow}
use Rattle.mls_treekem_model.specs.Chain.{chain, keys_of_path}
use Rattle.mls_tree_model.specs.Sets.{has}
use Rattle.mls_tree_model.specs.Places.{key_at}
use Rattle.mls_tree_model.specs.HeldKeys.{holds_key_of}
use Rattle.mls_tree_model.specs.Laws.{IsIn}
use Rattle.mls_treekem_model.specs.Tame.{TameEdits}

-- so are keys that are exact as they stand
abbrev pub ExactWhole : Type 0
ExactWhole = (c : Crypto) (t : Term) (p : PrivateKeys) → Exact c 0 t p.leaf (all_keys p) → HasExact c t p

-- ---- made, followed and opened

-- the committer's in the tree with its path
abbrev pub ExactMade : Type 0
ExactMade = (c : Crypto) (h : ℕ) (t : Term) (x : LeafNode) (start : List ℕ) (old new : PrivateKeys) → is_perfect h t ≡ true → h ≤ 32 → c.public old.own ≡ x.encryption_key → HasMade c start (filtered_path 0 t old.leaf) old new → HasExact c (merge_path t old.leaf x (keys_of_path c t old.leaf start)) new

-- a member's after edits that it follows, and after its own update
abbrev pub ExactFollowed : Type 0
ExactFollowed = (c : Crypto) (t t' : Term) (old new : PrivateKeys) → HasExact c t old → TameEdits old.leaf t t' → HasFollowed None t' old new → HasExact c t' new

abbrev pub ExactUpdated : Type 0
ExactUpdated = (c : Crypto) (t t' : Term) (x : LeafNode) (k : List ℕ) (old new : PrivateKeys) → c.public k ≡ x.encryption_key → TameEdits old.leaf (put 0 t old.leaf (Some x)) t' → HasFollowed (Some k) t' old new → HasExact c t' new

-- after it opened a path of leaf i, in the tree with that path
abbrev pub ExactOpened : Type 0
ExactOpened = (c : Crypto) (context : List ℕ) (added : List ℕ) (t : Term) (i : ℕ) (x : LeafNode) (path : List UpdatePathNode) (s : List ℕ) (old new : PrivateKeys) → AreTwo 0 t i old.leaf → HasExact c t old →
    opened_path c context added t i old.leaf (keys_on t old) path ≡ Ok (climb_to s new) → new.leaf ≡ old.leaf → HasExact c (merge_path t i x (map (λ n. n.encryption_key) path)) new

-- ---- received: the edits are followed, the path is merged, and then it is opened, on the tree with it

-- a member's keys on that tree are those on the tree before it
abbrev pub KeysMerged : Type 0
KeysMerged = (t : Term) (i : ℕ) (x : LeafNode) (keys : List (List ℕ)) (p : PrivateKeys) → keys_on (merge_path t i x keys) p ≡ keys_on t p

-- the tree with a path whose nodes come the lowest first
abbrev pub with_nodes : Term → ℕ → LeafNode → List UpdatePathNode → Term
with_nodes t i x path = merge_path t i x (map (λ n. n.encryption_key) path)

-- whatever path is accepted, the keys are exact
abbrev pub ExactReceived : Type 0
ExactReceived = (c : Crypto) (context : List ℕ) (added : List ℕ) (t : Term) (i : ℕ) (x : LeafNode) (path : List UpdatePathNode) (s : List ℕ) (old new : PrivateKeys) → AreTwo 0 t i old.leaf → HasExact c t old →
    opened_path c context added (with_nodes t i x path) i old.leaf (keys_on (with_nodes t i x path) old) path ≡ Ok (climb_to s new) → new.leaf ≡ old.leaf → HasExact c (with_nodes t i x path) new

-- a member takes the committer's commit secret, by the committer's secret of the parent where both ways part, and has
-- exact keys
pub record IsReceived (c : Crypto) (context added : List ℕ) (t : Term) (i : ℕ) (x : LeafNode) (start : List ℕ) (p : PrivateKeys) (path : List UpdatePathNode) : Type 0 where
  pub climb : Climb
  pub opens : opened_path c context added (with_nodes t i x path) i p.leaf (keys_on (with_nodes t i x path) p) path ≡ Ok climb
  pub opened : opened_secret c context added (with_nodes t i x path) i p.leaf (keys_on (with_nodes t i x path) p) path ≡ Ok (secret_for (way 0 t i) p.leaf start)
  pub secret : climb.secret ≡ chain start (path_length 0 t i)
  pub exact : Exact c 0 (with_nodes t i x path) p.leaf climb.keys

-- each member that wasn't just added receives a path that was made
abbrev pub MadeReceived : Type 0
MadeReceived = (c : Crypto) → Lawful c → (context : List ℕ) (added : List ℕ) (rnd : ℕ → List ℕ) (t : Term) (i : ℕ) (x : LeafNode) (start : List ℕ) (p : PrivateKeys) (path : List UpdatePathNode) →
    length start ≡ 32 → AreTwo 0 t i p.leaf → ListsBelow 0 t → HasExact c t p → has added p.leaf ≡ false → sealed_path c context added rnd t i start ≡ Ok path → IsReceived c context added t i x start p path

-- ---- which keys are shown

-- numbers of nodes with keys are in order, a node is among them exactly when the member has to have its key, and the
-- key is its node's
pub record AreDue (c : Crypto) (t : Term) (p : PrivateKeys) (ps : List (ℕ × List ℕ)) : Type 0 where
  pub in_order : IsInOrder (as_pairs ps)
  pub due : (d : ℕ) → is_some (find_key d (as_pairs ps)) ≡ holds_key_of 0 t p.leaf d
  pub fit : (d : ℕ) (k : List ℕ) → find_key d (as_pairs ps) ≡ Some k → key_at 0 t d ≡ Some (c.public k)

abbrev pub ShownAreDue : Type 0
ShownAreDue = (c : Crypto) (h : ℕ) (t : Term) (p : PrivateKeys) (ps : List (ℕ × List ℕ)) → is_perfect h t ≡ true → IsIn 0 t p.leaf → HasExact c t p → ArePairs p ps → AreDue c t p ps

-- ---- joined

-- a joiner's, with a path secret and without one
abbrev pub ExactTaken : Type 0
ExactTaken = (c : Crypto) (t : Term) (i : ℕ) (x : LeafNode) (secret s : List ℕ) (old new : PrivateKeys) → AreTwo 0 t i old.leaf → leaf_at 0 t old.leaf ≡ Some x → c.public old.own ≡ x.encryption_key → take_answer c t i old.leaf old.own secret ≡ Ok (climb_to s new) → new.leaf ≡ old.leaf → HasExact c t new

abbrev pub ExactAlone : Type 0
ExactAlone = (c : Crypto) (t : Term) (x : LeafNode) (sk : List ℕ) (p : PrivateKeys) → leaf_at 0 t p.leaf ≡ Some x → c.public sk ≡ x.encryption_key → all_keys p ≡ Some sk ∷ [] → has_due t p ≡ true → HasExact c t p
