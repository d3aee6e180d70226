-- The keys of nodes as code reads them.
use Rattle.std.specs.Prelude.{ℕ, List, Option, Some, None}
use Rattle.mls_leaf.specs.declared.node.Node.{Node}
use Rattle.mls_leaf.specs.declared.node.Node.TheVariants.{Leaf as in_leaf, Parent as in_parent}

-- the encryption key of what stands at a node (RFC 9420, 7.1 and 7.2)
abbrev pub encryption_key_of : Option Node → Option (List ℕ)
encryption_key_of None = None
encryption_key_of (Some (in_leaf v)) = Some v.encryption_key
encryption_key_of (Some (in_parent p)) = Some p.encryption_key
