-- The private keys that a member holds: a place for each parent over its leaf, the highest first, and the last place
-- for the leaf. They are aligned with the way to the leaf.
use Rattle.std.specs.Prelude.{◌≡◌, ℕ, ◌*◌, ◌==◌, if◌then◌else◌, Bool, true, false, List, [], ◌∷◌, Option, Some, None, ◌++◌, suc, length, ◌≤◌}
use Rattle.mls_leaf.specs.Parent.{Parent}
use Rattle.mls_leaf.specs.declared.leaf.LeafNode.{LeafNode}
use Rattle.mls_suite.specs.Crypto.{Crypto}
use Rattle.mls_tree_model.specs.Sets.{has}
use Rattle.mls_tree_model.specs.Term.{Term, leaf_at}
use Rattle.mls_tree_model.specs.Way.{Step, way}

-- private keys by their places: none where no key is held
abbrev pub Keys : Type 0
Keys = List (Option (List ℕ))

-- the key that is held at a parent is as it must be, by whether the parent lists the member as unmerged: then none is
-- held, else its private key is (RFC 9420, 7.5 and 7.6)
abbrev pub HoldsKey : Crypto → Bool → Parent → Option (List ℕ) → Type 0
HoldsKey c true p None = Unit {0}
HoldsKey c true p (Some k) = ⊥
HoldsKey c false p None = ⊥
HoldsKey c false p (Some k) = c.public k ≡ p.encryption_key

-- the key that is held by member j at a parent that may be blank is as it must be: at a blank one none is
abbrev pub HoldsDueKey : Crypto → ℕ → Option Parent → Option (List ℕ) → Type 0
HoldsDueKey c j None None = Unit {0}
HoldsDueKey c j None (Some k) = ⊥
HoldsDueKey c j (Some p) o = HoldsKey c (has p.unmerged_leaves j) p o

-- what is left of the keys at a leaf is its private key alone
abbrev pub IsOwnKey : Crypto → Option LeafNode → Keys → Type 0
IsOwnKey c (Some x) (Some k ∷ []) = c.public k ≡ x.encryption_key
IsOwnKey c (Some x) (Some k ∷ o ∷ ks) = ⊥
IsOwnKey c (Some x) (None ∷ ks) = ⊥
IsOwnKey c (Some x) [] = ⊥
IsOwnKey c None ks = ⊥

-- along a way each key stands to its parent as F says, and the last key is that of the leaf x
unfoldable pub AreKeysAlong : Crypto → (Option Parent → Option (List ℕ) → Type 0) → List Step → Option LeafNode → Keys → Type 0
AreKeysAlong c F [] x ks = IsOwnKey c x ks
AreKeysAlong c F (s ∷ ss) x [] = ⊥
AreKeysAlong c F (s ∷ ss) x (o ∷ ks) = F s.parent o × AreKeysAlong c F ss x ks

-- the keys of member j of a tree whose first leaf is b stand to the parents over it as F says, and to its leaf
abbrev pub AreKeysOnWay : Crypto → (Option Parent → Option (List ℕ) → Type 0) → ℕ → Term → ℕ → Keys → Type 0
AreKeysOnWay c F b t j ks = AreKeysAlong c F (way b t j) (leaf_at b t j) ks

-- member j of a tree whose first leaf is b has a key exactly at its leaf and at each parent over it that isn't blank
-- and doesn't list it, and there the one whose public key is the node's (RFC 9420, 7.5 and 7.6)
abbrev pub Exact : Crypto → ℕ → Term → ℕ → Keys → Type 0
Exact c b t j ks = AreKeysOnWay c (HoldsDueKey c j) b t j ks

-- all but the first of a list
abbrev pub rest : {A : Type 0} → List A → List A
rest [] = []
rest (x ∷ xs) = xs

-- the keys of a member that has its leaf's private key alone, along a way
unfoldable pub leaf_only : List Step → List ℕ → Keys
leaf_only [] k = Some k ∷ []
leaf_only (s ∷ ss) k = None ∷ leaf_only ss k

-- the private key that leaf j has for node n, by its way and its keys
unfoldable pub key_for : List Step → ℕ → Keys → ℕ → Option (List ℕ)
key_for [] j [] n = None
key_for [] j (o ∷ ks) n = if n == 2 * j then o else None
key_for (s ∷ ss) j [] n = None
key_for (s ∷ ss) j (o ∷ ks) n = if n == s.node then o else key_for ss j ks n

-- the private key that leaf j of a tree whose first leaf is b has for node n, by its keys
abbrev pub key_in : ℕ → Term → ℕ → Keys → ℕ → Option (List ℕ)
key_in b t j ks n = key_for (way b t j) j ks n

-- a member's leaf with its private key, and the keys that it has above, the highest first: the last is of the node right
-- over the leaf, and the list may be shorter than the way, as no key is held of nodes that are higher
pub record PrivateKeys : Type 0 where
  pub leaf : ℕ
  pub own : List ℕ
  pub above : Keys

-- all its keys, the highest first
abbrev pub all_keys : PrivateKeys → Keys
all_keys p = p.above ++ (Some p.own ∷ [])

-- ---- in a whole tree, by the height above the leaf

-- the key that is held n nodes above the leaf
unfoldable pub key_above : ℕ → Keys → Option (List ℕ)
key_above n [] = None
key_above n (o ∷ ks) = if length ks == n then o else key_above n ks

-- the keys by their height above the leaf, on a way of any length: none where nothing is so high
unfoldable pub keys_on_way : List Step → Keys → Keys
keys_on_way [] ks = key_above 0 ks ∷ []
keys_on_way (s ∷ ss) ks = key_above (suc (length ss)) ks ∷ keys_on_way ss ks

-- a member's keys, one for each parent over its leaf in a whole tree: the key that it holds at that height, or none
abbrev pub keys_on : Term → PrivateKeys → Keys
keys_on t p = keys_on_way (way 0 t p.leaf) (all_keys p)

-- a member's keys are exact on its way in a whole tree, and none is higher (RFC 9420, 7.5 and 7.6)
pub record HasExact (c : Crypto) (t : Term) (p : PrivateKeys) : Type 0 where
  pub keys : Exact c 0 t p.leaf (keys_on t p)
  pub low : length p.above ≤ length (way 0 t p.leaf)
