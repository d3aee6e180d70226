use Rattle.std.proofs.Common.{◌<◌, arith}
use Rattle.std.specs.Option.{option_map}
use Rattle.mls_tree_slot.specs.Nodes.{lent_node}
use Rattle.mls_cli_draw.proofs.Subtrees.{fork_pushed, leaf_pushed}
use Rattle.mls_cli_draw.proofs.svg.+push_subtree.Goals as goal

pub returns-then-subtree-le1 : goal.returns-then-subtree-le1
returns-then-subtree-le1 t c =
    leaf_pushed c.args.subtree c.point-point.result c.args.nodes.now c.args.path.now c.is_on.result (option_map lent_node c.node_in-node.result) c.in_ok-leaf_row.field-0 c.args.rows.now.items c.push.new.self.items
    c.if-subtree-le1.true c.point-point.ensures c.is_on.ensures c.node_in-node.ensures c.in_ok-leaf_row.ensures c.in_ok-push.ensures.items

pub returns : goal.returns
returns t c =
    let some : 1 < c.args.subtree.leaves = omega (arith, c.if-subtree-le1.false) in
    fork_pushed c.args.subtree c.left-left.result c.right-right.result c.point-point.result c.point.result c.point-2.result c.number-number.result
    c.args.nodes.now c.args.path.now c.is_on-on_path.result (option_map lent_node c.node_in-found.result) c.in_ok-parent_row.field-0
    c.args.rows.now.items c.push_subtree.new.rows.items c.push-2.new.self.items c.push_subtree-2.new.rows.items c.push_subtree-2.result
    some c.left-left.ensures c.right-right.ensures c.point-point.ensures c.point.ensures c.point-2.ensures c.number-number.ensures
    c.in_ok-push_subtree.ensures c.is_on-on_path.ensures c.node_in-found.ensures c.in_ok-parent_row.ensures c.in_ok-push-2.ensures.items c.push_subtree-2.ensures
