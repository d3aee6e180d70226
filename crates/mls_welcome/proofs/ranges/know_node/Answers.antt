use Rattle.std.proofs.Common.{sym, subst}
use Rattle.mls_leaf.specs.Node.{node}
use Rattle.mls_tree_slot.specs.Nodes.{lent_node}
use Rattle.mls_tree_slot.specs.declared.node_ref.NodeRef.{NodeRef}
use Rattle.mls_public_group.specs.MessageLimit.{FitsIfShort}
use Rattle.mls_welcome.proofs.Fitting.{leaf_node_fit, parent_node_fit}
use Rattle.mls_welcome.proofs.ranges.know_node.Goals as goal

pub returns-in-Leaf : goal.returns-in-Leaf
returns-in-Leaf c =
    subst (λ (v : NodeRef). FitsIfShort node (lent_node v)) (sym c.in-Leaf.is) (leaf_node_fit c.in-Leaf.leaf.now c.know_leaf.ensures)

pub returns-in-Parent : goal.returns-in-Parent
returns-in-Parent c =
    subst (λ (v : NodeRef). FitsIfShort node (lent_node v)) (sym c.in-Parent.is) (parent_node_fit c.in-Parent.parent.now c.know_parent.ensures)
