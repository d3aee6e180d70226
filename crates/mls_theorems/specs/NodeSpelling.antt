-- The nodes of a tree have a spelling: each leaf has one, and keys and parent hashes are short.
use Rattle.std.specs.Prelude.{ℕ, ◌<◌, ◌^◌, List, length, Option, Some, None}
use Rattle.mls_leaf.specs.Leaf.{leaf_node}
use Rattle.mls_leaf.specs.Parent.{Parent}
use Rattle.mls_leaf.specs.declared.leaf.LeafNode.{LeafNode}
use Rattle.mls_tree_model.specs.Term.{Term, Leaf, Branch}

-- ---- what has a spelling of itself

abbrev pub LeafFits : Option LeafNode → Type 0
LeafFits None = Unit {0}
LeafFits (Some x) = leaf_node.Fits x

abbrev pub IsShort : List ℕ → Type 0
IsShort text = length text < 2 ^ 30

abbrev pub ParentShort : Option Parent → Type 0
ParentShort None = Unit {0}
ParentShort (Some p) = IsShort p.encryption_key × IsShort p.parent_hash

-- each leaf has a spelling, and what parents have is short, their lists aside
unfoldable pub PartsFit : Term → Type 0
PartsFit (Leaf v) = LeafFits v
PartsFit (Branch c l r) = ParentShort c × (PartsFit l × PartsFit r)
