-- What stands at a node, by its number.
use Rattle.std.specs.Prelude.{ℕ, Option, None}
use Rattle.mls_leaf.specs.Parent.{Parent}
use Rattle.mls_leaf.specs.declared.leaf.LeafNode.{LeafNode}
use Rattle.mls_tree_model.specs.Term.{Term, Leaf, Branch}

-- the leaf or the parent that a subtree has at its own node
abbrev pub own_leaf : ℕ → Term → Option LeafNode
own_leaf b (Leaf v) = v
own_leaf b (Branch c l r) = None

abbrev pub own_parent : ℕ → Term → Option Parent
own_parent b (Leaf v) = None
own_parent b (Branch c l r) = c
