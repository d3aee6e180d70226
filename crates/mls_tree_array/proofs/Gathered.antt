-- Keys that are gathered from a list of nodes.
use Rattle.std.specs.Prelude.{ℕ, List, [], Option}
use Rattle.mls_leaf.specs.declared.node.Node.{Node}
use Rattle.mls_tree_model.specs.Keys.{leaf_signature}
use Rattle.mls_tree_array.specs.CellKeys.{cell_value}

abbrev pub cell_signature : Option Node → List (List ℕ)
cell_signature c = cell_value leaf_signature (λ p. []) c
