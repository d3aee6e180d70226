-- What a merge writes on the way to a leaf.
use Rattle.std.specs.Prelude.{ℕ, ◌+◌, nat_lt, Bool, true, false, if◌then◌else◌, List, [], ◌∷◌, ◌++◌, Option, Some, None}
use Rattle.std.specs.Option.{option_to_list}
use Rattle.mls_leaf.specs.Parent.{Parent}
use Rattle.mls_tree_model.specs.Term.{Term, Leaf, Branch, width}
use Rattle.mls_tree_model.specs.Merge.{parent_beside, keys_beside, hash_beside}

-- the parents that a merge makes over leaf i, the highest first (RFC 9420, 7.5 and 7.9)
unfoldable pub path_parents : ℕ → Term → ℕ → List (List ℕ) → List ℕ → List Parent
path_parents b (Leaf v) i ks h = []
path_parents b (Branch c l r) i ks h =
    if nat_lt i (b + width l)
    then option_to_list (parent_beside (b + width l) r ks h) ++ path_parents b l i (keys_beside (b + width l) r ks) (hash_beside (b + width l) r ks h)
    else option_to_list (parent_beside b l ks h) ++ path_parents (b + width l) r i (keys_beside b l ks) (hash_beside b l ks h)

-- the first of some parents where one is wanted, and the others
abbrev pub first_if : Bool → List Parent → Option Parent
first_if false ps = None
first_if true [] = None
first_if true (p ∷ ps) = Some p

abbrev pub rest_if : Bool → List Parent → List Parent
rest_if false ps = ps
rest_if true [] = []
rest_if true (p ∷ ps) = ps

-- the bytes of a parent hash that may be empty (RFC 9420, 7.9)
abbrev pub hash_bytes : Option (List ℕ) → List ℕ
hash_bytes None = []
hash_bytes (Some h) = h
