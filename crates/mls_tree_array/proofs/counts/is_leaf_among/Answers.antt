use Rattle.std.proofs.Common.{arith, sym, ◌∙◌}
use Rattle.mls_tree_model.proofs.SetLaws.{leaf_here, leaf_elsewhere, leaf_nowhere}
use Rattle.mls_tree_array.proofs.counts.is_leaf_among.Goals as goal

pub returns-then-from-node : goal.returns-then-from-node
returns-then-from-node c =
    let e = c.from.ensures in
    let f = c.if-from-node.true in
    sym (leaf_here c.args.leaves.now c.loop-leaf.leaf-index c.args.node (omega arith) (omega arith)) ∙ c.loop-leaf.invariant

pub loop-leaf-preserved : goal.loop-leaf-preserved
loop-leaf-preserved c =
    let e = c.from.ensures in
    let f = c.if-from-node.false in
    leaf_elsewhere c.args.leaves.now c.loop-leaf.leaf-index c.args.node (omega arith) (λ g. absurd (omega arith)) ∙ c.loop-leaf.invariant

pub returns : goal.returns
returns c = sym (leaf_nowhere c.args.leaves.now c.loop-leaf.leaf-index c.args.node (omega arith)) ∙ c.loop-leaf.invariant
