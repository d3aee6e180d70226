-- Keys that are gathered from a list of nodes.
use Rattle.std.specs.Prelude.{ℕ, List, [], Option, Some, None}
use Rattle.mls_leaf.specs.Parent.{Parent}
use Rattle.mls_leaf.specs.declared.leaf.LeafNode.{LeafNode}
use Rattle.mls_leaf.specs.declared.node.Node.{Node}
use Rattle.mls_leaf.specs.declared.node.Node.TheVariants.{Leaf as in_leaf, Parent as in_parent}
use Rattle.mls_tree_model.specs.Keys.{leaf_key, parent_key}

-- what is gathered from a cell
abbrev pub cell_value : (Option LeafNode → List (List ℕ)) → (Option Parent → List (List ℕ)) → Option Node → List (List ℕ)
cell_value f g None = []
cell_value f g (Some (in_leaf v)) = f (Some v)
cell_value f g (Some (in_parent p)) = g (Some p)

-- the encryption key in a cell, and the signature key
abbrev pub cell_keys : Option Node → List (List ℕ)
cell_keys c = cell_value leaf_key parent_key c
