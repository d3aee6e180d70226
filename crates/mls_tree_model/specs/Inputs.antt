-- The hashes of nodes, of what they hold and of the hashes below them (RFC 9420, 7.8 and 7.9).
use Rattle.std.specs.Prelude.{ℕ, List, Option}
use Rattle.sha2.specs.Sha256.{sha256}
use Rattle.mls_leaf.specs.Parent.{Parent}
use Rattle.mls_leaf.specs.declared.leaf.LeafNode.{LeafNode}
use Rattle.mls_leaf.specs.Inputs.{tree_hash_input_of_leaf, tree_hash_input_of_parent, parent_hash_input}

-- the hash of a leaf by its number (RFC 9420, 7.8)
unfoldable pub leaf_hash : ℕ → Option LeafNode → List ℕ
leaf_hash i v = sha256 (tree_hash_input_of_leaf i v)

-- the hash of a parent by the hashes of its sides (RFC 9420, 7.8)
unfoldable pub branch_hash : Option Parent → List ℕ → List ℕ → List ℕ
branch_hash c left right = sha256 (tree_hash_input_of_parent c left right)

-- the parent hash of a parent, by its key, the parent hash that it holds and the hash of the original sibling (RFC
-- 9420, 7.9)
unfoldable pub sibling_hash : List ℕ → List ℕ → List ℕ → List ℕ
sibling_hash key hash sibling = sha256 (parent_hash_input key hash sibling)
