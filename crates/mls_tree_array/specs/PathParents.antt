-- What a merge makes over a leaf, as code has it (RFC 9420, 7.5 and 7.9).
use Rattle.std.specs.Prelude.{◌≡◌, ℕ, List, [], reverse, Option, OnOk, Result}
use Rattle.std.specs.Option.{option_to_list}
use Rattle.std.specs.Global.{Vec}
use Rattle.mls_leaf.specs.Parent.{Parent}
use Rattle.mls_tree_model.specs.Term.{Term}
use Rattle.mls_tree_model.specs.Merge.{path_hash, parent_beside, keys_beside, hash_beside}
use Rattle.mls_tree_array.specs.declared.merging.MergedPath.{MergedPath}
use Rattle.mls_tree_array.specs.Additions.{Adds}
use Rattle.mls_tree_array.specs.Subtrees.{Subtree}
use Rattle.mls_tree_array.specs.Merging.{path_parents, hash_bytes}

-- a parent that a merge makes: its list is empty
abbrev pub merged_parent : List ℕ → Option (List ℕ) → Parent
merged_parent key hash = record { encryption_key = key; parent_hash = hash_bytes hash; unmerged_leaves = [] }

-- the keys, the lowest first, that are left below a parent with this other side
abbrev pub AreKeysBelow : Subtree → List (List ℕ) → List (List ℕ) → Type 0
AreKeysBelow side keys below = reverse below ≡ keys_beside side.first side.term (reverse keys)

-- the parent hash that is handed down below a parent with this other side
abbrev pub IsHashBelow : Subtree → List (List ℕ) → Option (List ℕ) → Option (List ℕ) → Type 0
IsHashBelow side keys above =
    λ below. hash_bytes below ≡ hash_beside side.first side.term (reverse keys) (hash_bytes above)

-- the parent hash that reaches leaf i, by the one above the tree
abbrev pub IsPathHash : Subtree → ℕ → List (List ℕ) → Option (List ℕ) → Option (List ℕ) → Type 0
IsPathHash t i keys above =
    λ below. hash_bytes below ≡ path_hash t.first t.term i (reverse keys) (hash_bytes above)

-- the parent with this other side was added, where there is one
abbrev pub AddsParent : Subtree → Vec (List ℕ) → Option (List ℕ) → Vec Parent → Vec Parent → Type 0
AddsParent side keys above old new =
    Adds (option_to_list (parent_beside side.first side.term (reverse keys.items) (hash_bytes above))) old new

-- the parents over leaf i were added, the highest first, where no memory was missing
abbrev pub AddsParents : {B E : Type 0} → Subtree → ℕ → Vec (List ℕ) → Option (List ℕ) → Vec Parent → Vec Parent → Result B E → Type 0
AddsParents t i keys above old new result =
    OnOk result (Adds (path_parents t.first t.term i (reverse keys.items) (hash_bytes above)) old new)

-- the parents of a merged path are those over leaf i of a tree, by their keys, the lowest first
abbrev pub HasParents : ℕ → Term → ℕ → List (List ℕ) → MergedPath → Type 0
HasParents b t i keys = λ p. p.parents.items ≡ path_parents b t i (reverse keys) []

-- the hash of a merged path is the one that reaches leaf i of a tree
abbrev pub HasHash : ℕ → Term → ℕ → List (List ℕ) → MergedPath → Type 0
HasHash b t i keys = λ p. hash_bytes p.hash ≡ path_hash b t i (reverse keys) []
