-- Right lists of unmerged leaves.
use Rattle.std.specs.Prelude.{◌≡◌, ℕ, Bool, true, Option}
use Rattle.mls_leaf.specs.Parent.{Parent}
use Rattle.mls_leaf.specs.declared.node.Node.{Node}
use Rattle.mls_tree_model.specs.Term.{Term}
use Rattle.mls_tree_model.specs.Lists.{parent_passes, all_parents, rises_here}
use Rattle.mls_tree_model.specs.Arrays.{parent_in}
use Rattle.mls_tree_array.specs.Subtrees.{Subtree}

-- whether a parent over two sides passes a test
abbrev pub passes_over : (ℕ → Parent → Term → Term → Bool) → Subtree → Parent → Subtree → Bool
passes_over q left p right = q left.first p left.term right.term

-- whether what stands over two sides passes a test, where it isn't blank
abbrev pub root_passes : (ℕ → Parent → Term → Term → Bool) → Subtree → Option Node → Subtree → Bool
root_passes q left root right = parent_passes q left.first (parent_in root) left.term right.term

-- the list of each parent rises (RFC 9420, 7.1)
abbrev pub AllRise : ℕ → Term → Type 0
AllRise b t = all_parents rises_here b t ≡ true
