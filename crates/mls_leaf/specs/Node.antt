-- The format of nodes (RFC 9420, 12.4.3.3).
use Rattle.std.specs.Prelude.{◌≡◌, refl}
use Rattle.std.proofs.Common.{◌⊎◌, inl, inr}
use Rattle.mls_wire.specs.Format.{Format}
use Rattle.mls_wire.specs.Combine.{image, case, others, by_uint8}
use Rattle.mls_wire.specs.CombineReads.{IsNonempty}
use Rattle.mls_leaf.specs.Nonempty.{by_uint8_nonempty}
use Rattle.mls_leaf.specs.Leaf.{leaf_node}
use Rattle.mls_leaf.specs.Parent.{Parent}
use Rattle.mls_leaf.specs.ParentNode.{parent_node}
use Rattle.mls_leaf.specs.declared.leaf.LeafNode.{LeafNode}
use Rattle.mls_leaf.specs.declared.node.Node as declared
use Rattle.mls_leaf.specs.declared.node.Node.TheVariants.{Leaf as in_leaf, Parent as in_parent}

-- ---- (RFC 9420, section 12.4.3.3) uint8 kind, then 1: LeafNode; 2: ParentNode

-- what stands behind each kind: a LeafNode or a ParentNode
abbrev pub Nodes : Type 0
Nodes = LeafNode ⊎ (Parent ⊎ ⊥)

-- the node of what stands behind its kind
abbrev pub make_node : Nodes → declared.Node
make_node (inl x) = in_leaf x
make_node (inr (inl x)) = in_parent x
make_node (inr (inr x)) = absurd x

-- what stands behind the kind of a node
abbrev pub node_parts : declared.Node → Nodes
node_parts (in_leaf x) = inl x
node_parts (in_parent x) = inr (inl x)

pub node_there : (v : declared.Node) → make_node (node_parts v) ≡ v
node_there (in_leaf x) = refl
node_there (in_parent x) = refl

pub node_back : (x : Nodes) → node_parts (make_node x) ≡ x
node_back (inl x) = refl
node_back (inr (inl x)) = refl
node_back (inr (inr x)) = absurd x

-- Node (RFC 9420, 12.4.3.3): uint8 kind, then its LeafNode or ParentNode; another kind is `BadTag` (7)
unfoldable pub node : Format declared.Node
node = image (by_uint8 (case 1 leaf_node (case 2 parent_node (others 7)))) make_node node_parts node_there (λ x _. node_back x)

pub node_nonempty : IsNonempty node
unfolding node
node_nonempty v fits = by_uint8_nonempty (case 1 leaf_node (case 2 parent_node (others 7))) (node_parts v) fits
