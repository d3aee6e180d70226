-- The nodes that places hold and lend.
use Rattle.std.specs.Prelude.{Option, Some, None}
use Rattle.mls_leaf.specs.declared.node.Node.{Node}
use Rattle.mls_leaf.specs.declared.node.Node.TheVariants.{Leaf as in_leaf, Parent as in_parent}
use Rattle.mls_tree_slot.specs.declared.content.Content.{Content}
use Rattle.mls_tree_slot.specs.declared.content.Content.TheVariants as content
use Rattle.mls_tree_slot.specs.declared.node_ref.NodeRef.{NodeRef}
use Rattle.mls_tree_slot.specs.declared.node_ref.NodeRef.TheVariants as lent

-- the node that a place holds: none where it is blank
abbrev pub held_node : Content → Option Node
held_node content.Blank = None
held_node (content.Leaf shared) = Some (in_leaf shared.value)
held_node (content.Parent shared) = Some (in_parent shared.value)

-- the node that is lent
abbrev pub lent_node : NodeRef → Node
lent_node (lent.Leaf v) = in_leaf v.now
lent_node (lent.Parent p) = in_parent p.now
