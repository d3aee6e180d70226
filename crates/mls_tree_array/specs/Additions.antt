-- What calls add at the end of a list.
use Rattle.std.specs.Prelude.{◌≡◌, ◌-◌, ◌++◌, ℕ, List, [], ◌∷◌, length, replicate, if◌then◌else◌, Option, None}
use Rattle.std.specs.Global.{Vec}
use Rattle.mls_leaf.specs.declared.node.Node.{Node}
use Rattle.mls_tree_model.specs.Sets.{leaf_numbers}
use Rattle.mls_tree_model.specs.Resolution.{resolution, is_reached}
use Rattle.mls_tree_model.specs.Places.{resolution_at}
use Rattle.mls_tree_model.specs.Way.{filtered_path, target_count, ciphertext_counts}
use Rattle.mls_tree_array.specs.Subtrees.{Subtree}

-- from one list to the other these elements were added
abbrev pub Adds : {A : Type 0} → List A → Vec A → Vec A → Type 0
Adds xs old new = new.items ≡ old.items ++ xs

-- blank nodes were added up to a length
abbrev pub PadsTo : ℕ → Vec (Option Node) → Vec (Option Node) → Type 0
PadsTo end old new = Adds (replicate (end - length old.items) None) old new

-- the node numbers of some leaves were added
abbrev pub AddsLeaves : List ℕ → Vec ℕ → Vec ℕ → Type 0
AddsLeaves us old new = Adds (leaf_numbers us) old new

-- the resolution of a tree was added (RFC 9420, 4.1.1)
abbrev pub AddsResolution : Subtree → Vec ℕ → Vec ℕ → Type 0
AddsResolution t old new = Adds (resolution t.first t.term) old new

-- the resolution of node x of a tree was added
abbrev pub AddsResolutionAt : Subtree → ℕ → Vec ℕ → Vec ℕ → Type 0
AddsResolutionAt t x old new = Adds (resolution_at t.first t.term x) old new

-- the filtered direct path of leaf i was added (RFC 9420, 4.1.2)
abbrev pub AddsFilteredPath : Subtree → ℕ → Vec ℕ → Vec ℕ → Type 0
AddsFilteredPath t i old new = Adds (filtered_path t.first t.term i) old new

-- where a side is reached, its number of nodes to seal to was added
abbrev pub AddsCount : Subtree → List ℕ → Vec ℕ → Vec ℕ → Type 0
AddsCount side added old new =
    Adds (if is_reached side.first side.term then target_count added side.first side.term ∷ [] else []) old new

-- the numbers of ciphertexts on the path of leaf i were added (RFC 9420, 7.6)
abbrev pub AddsCounts : Subtree → ℕ → List ℕ → Vec ℕ → Vec ℕ → Type 0
AddsCounts t i added old new = Adds (ciphertext_counts t.first t.term i added) old new
