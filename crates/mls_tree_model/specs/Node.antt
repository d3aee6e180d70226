-- The parent hashes that the nodes of a tree hold.
use Rattle.std.specs.Prelude.{ℕ, List, Option, Some, None}
use Rattle.mls_leaf.specs.Parent.{Parent}
use Rattle.mls_leaf.specs.declared.leaf.LeafNode.{LeafNode}
use Rattle.mls_leaf.specs.declared.leaf.LeafSource.{LeafSource}
use Rattle.mls_leaf.specs.declared.leaf.LeafSource.TheVariants.{KeyPackage, Update, Commit}

-- the parent hash that a leaf has by its source: only one of a commit has it (RFC 9420, 7.2)
abbrev pub source_hash : LeafSource → Option (List ℕ)
source_hash (KeyPackage before after) = None
source_hash Update = None
source_hash (Commit hash) = Some hash

-- the parent hash of a leaf, which may be blank, where it has one (RFC 9420, 7.2 and 7.9)
abbrev pub leaf_parent_hash : Option LeafNode → Option (List ℕ)
leaf_parent_hash None = None
leaf_parent_hash (Some v) = source_hash v.source

-- the parent hash of a parent, which may be blank, where it has one (RFC 9420, 7.1 and 7.9)
abbrev pub own_parent_hash : Option Parent → Option (List ℕ)
own_parent_hash None = None
own_parent_hash (Some p) = Some p.parent_hash
