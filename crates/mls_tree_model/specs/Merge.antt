-- What a commit's path does to a tree (RFC 9420, 7.5).
use Rattle.std.specs.Prelude.{ℕ, ◌+◌, nat_lt, Bool, true, false, if◌then◌else◌, List, [], ◌∷◌, reverse, Option, Some, None}
use Rattle.mls_leaf.specs.Parent.{Parent}
use Rattle.mls_leaf.specs.declared.leaf.LeafNode.{LeafNode}
use Rattle.mls_tree_model.specs.Term.{Term, Leaf, Branch, width}
use Rattle.mls_tree_model.specs.Resolution.{is_reached}
use Rattle.mls_tree_model.specs.Hashes.{parent_hash}

-- the new parent of the highest of some keys and a parent hash, where the filtered direct path takes it in (RFC 9420,
-- 7.5)
abbrev pub new_parent : Bool → List (List ℕ) → List ℕ → Option Parent
new_parent false ks h = None
new_parent true [] h = None
new_parent true (key ∷ ks) h = Some (record { encryption_key = key; parent_hash = h; unmerged_leaves = [] })

-- the keys that are left for the parents below: all but the highest, where the filtered direct path takes this one in
abbrev pub keys_below : Bool → List (List ℕ) → List (List ℕ)
keys_below false ks = ks
keys_below true [] = []
keys_below true (key ∷ ks) = ks

-- the parent hash for the next node below a parent, where m is the first leaf of the other side s: that of the parent
-- with s; where it is blank, the one that it was given
abbrev pub hash_below : Option Parent → ℕ → Term → List ℕ → List ℕ
hash_below None m s h = h
hash_below (Some p) m s h = parent_hash p m s

-- the new parent, where there is one, by its other side s, whose first leaf is m: the side's resolution decides whether
-- there is one
abbrev pub parent_beside : ℕ → Term → List (List ℕ) → List ℕ → Option Parent
parent_beside m s ks h = new_parent (is_reached m s) ks h

-- the keys that are left for the parents below, by the other side s
abbrev pub keys_beside : ℕ → Term → List (List ℕ) → List (List ℕ)
keys_beside m s ks = keys_below (is_reached m s) ks

-- the parent hash for the next node below, by the other side s
abbrev pub hash_beside : ℕ → Term → List (List ℕ) → List ℕ → List ℕ
hash_beside m s ks h = hash_below (parent_beside m s ks h) m s h

-- a tree with leaf i replaced and the parents over it blanked, except for those of the filtered path: they get these
-- keys, the highest first, and the parent hashes that are handed down from h (RFC 9420, 7.5 and 7.9)
unfoldable pub merge : ℕ → Term → ℕ → List (List ℕ) → List ℕ → LeafNode → Term
merge b (Leaf v) i ks h x = Leaf (Some x)
merge b (Branch c l r) i ks h x =
    if nat_lt i (b + width l)
    then Branch (parent_beside (b + width l) r ks h)
    (merge b l i (keys_beside (b + width l) r ks) (hash_beside (b + width l) r ks h) x) r
    else Branch (parent_beside b l ks h) l
    (merge (b + width l) r i (keys_beside b l ks) (hash_beside b l ks h) x)

-- the parent hash that a merged path hands down to its leaf, from h on (RFC 9420, 7.9)
unfoldable pub path_hash : ℕ → Term → ℕ → List (List ℕ) → List ℕ → List ℕ
path_hash b (Leaf v) i ks h = h
path_hash b (Branch c l r) i ks h =
    if nat_lt i (b + width l)
    then path_hash b l i (keys_beside (b + width l) r ks) (hash_beside (b + width l) r ks h)
    else path_hash (b + width l) r i (keys_beside b l ks) (hash_beside b l ks h)

-- a whole tree with a path merged, whose keys are given lowest first: the parent hash of its highest node is empty,
-- also where that isn't the root (RFC 9420, 7.5 and 7.9)
unfoldable pub merge_path : Term → ℕ → LeafNode → List (List ℕ) → Term
merge_path t i x keys = merge 0 t i (reverse keys) [] x

-- the parent hash that the leaf of a merged path must have: empty where the filtered direct path is (RFC 9420, 7.9)
unfoldable pub path_parent_hash : Term → ℕ → List (List ℕ) → List ℕ
path_parent_hash t i keys = path_hash 0 t i (reverse keys) []
