use Rattle.std.proofs.Common.{arith, sym, ◌∙◌}
use Rattle.mls_tree_array.proofs.Sent.{alternates-refused, alternates-on, alternates-end}
use Rattle.mls_tree_array.proofs.order.alternates.Goals as goal

pub returns-then-not-may_stand : goal.returns-then-not-may_stand
returns-then-not-may_stand c =
    sym (sym c.loop-node.invariant
    ∙ alternates-refused c.loop-node.even c.args.nodes.now c.loop-node.node-index _ (omega arith) c.node-item.is (sym c.may_stand.ensures ∙ c.if-not-may_stand.true))

pub loop-node-preserved : goal.loop-node-preserved
loop-node-preserved c =
    alternates-on c.loop-node.even c.args.nodes.now c.loop-node.node-index _ (omega arith) c.node-item.is (sym c.may_stand.ensures ∙ c.if-not-may_stand.false)
    ∙ c.loop-node.invariant

pub returns : goal.returns
returns c =
    sym (sym c.loop-node.invariant
    ∙ alternates-end c.loop-node.even c.args.nodes.now c.loop-node.node-index (omega arith))
