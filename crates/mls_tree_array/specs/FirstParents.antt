-- What the search for a parent that fails a test answers.
use Rattle.std.specs.Prelude.{◌≡◌, ℕ, Bool, if◌then◌else◌, Option, Some, None}
use Rattle.mls_leaf.specs.Parent.{Parent}
use Rattle.mls_leaf.specs.declared.node.Node.{Node}
use Rattle.mls_tree_model.specs.Term.{Term}
use Rattle.mls_tree_model.specs.FirstParents.{first_parent}
use Rattle.mls_tree_array.specs.Subtrees.{Subtree, root_number}
use Rattle.mls_tree_array.specs.RightLists.{root_passes}

-- the root of a tree over these two sides is named where it fails a test
abbrev pub NamesRoot : (ℕ → Parent → Term → Term → Bool) → Subtree → Subtree → Option Node → Subtree → Option ℕ → Type 0
NamesRoot q t left root right found =
    found ≡ (if root_passes q left root right then None else Some (root_number t.first t.term))

-- the first parent of a tree that fails a test is named, by its node number
abbrev pub NamesFirst : (ℕ → Parent → Term → Term → Bool) → Subtree → Option ℕ → Type 0
NamesFirst q t found = found ≡ first_parent q t.first t.term
