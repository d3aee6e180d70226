-- What a subtree whose hashes are all kept is told of its root.
use Rattle.std.specs.Prelude.{◌≡◌, ℕ, Option, Some, None}
use Rattle.mls_leaf.specs.declared.leaf.LeafNode.{LeafNode}
use Rattle.mls_tree_model.specs.Term.{Leaf}
use Rattle.mls_tree_model.specs.Arrays.{leaf_in, parent_in}
use Rattle.mls_tree_array.specs.Subtrees.{Subtree, IsOver, IsStep}
use Rattle.mls_tree_array.specs.declared.hashed_subtree.HashedParts.{HashedParts}
use Rattle.mls_tree_array.specs.declared.hashed_subtree.HashedParts.TheVariants as parts
use Rattle.mls_tree_array.specs.declared.hashed_subtree.HashedStep.{HashedStep}

-- a subtree is the leaf in this place, or has these sides and this root
abbrev pub HasParts : Subtree → HashedParts → Type 0
HasParts t (parts.Leaf place) = t.term ≡ Leaf (leaf_in place.now)
HasParts t (parts.Branch left root right) = IsOver t left (parent_in root.now) right

-- the step from a subtree's root to leaf i: none from a leaf
abbrev pub HasStep : Subtree → ℕ → Option HashedStep → Type 0
HasStep t i None = (v : Option LeafNode) × (t.term ≡ Leaf v)
HasStep t i (Some s) = IsStep t i s.side (parent_in s.root.now) s.other
