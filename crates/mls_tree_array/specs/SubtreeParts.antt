-- What a subtree is told of its root.
use Rattle.std.specs.Prelude.{◌≡◌, ℕ, Option, Some, None}
use Rattle.mls_leaf.specs.declared.leaf.LeafNode.{LeafNode}
use Rattle.mls_tree_model.specs.Term.{Leaf}
use Rattle.mls_tree_model.specs.Arrays.{leaf_in, parent_in}
use Rattle.mls_tree_array.specs.Subtrees.{Subtree, IsOver, IsStep}
use Rattle.mls_tree_array.specs.declared.subtree.Parts.{Parts}
use Rattle.mls_tree_array.specs.declared.subtree.Parts.TheVariants as parts
use Rattle.mls_tree_array.specs.declared.subtree.Step.{Step}

-- a subtree is the leaf in this place, or has these sides and this root
abbrev pub HasParts : Subtree → Parts → Type 0
HasParts t (parts.Leaf place) = t.term ≡ Leaf (leaf_in place.now)
HasParts t (parts.Branch left root right) = IsOver t left (parent_in root.now) right

-- the step from a subtree's root to leaf i: none from a leaf
abbrev pub HasStep : Subtree → ℕ → Option Step → Type 0
HasStep t i None = (v : Option LeafNode) × (t.term ≡ Leaf v)
HasStep t i (Some s) = IsStep t i s.side (parent_in s.root.now) s.other
