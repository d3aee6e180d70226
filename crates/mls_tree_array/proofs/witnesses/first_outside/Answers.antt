use Rattle.std.proofs.Common.{arith, sym, ◌∙◌}
use Rattle.mls_tree_array.specs.Witnesses.{numbers_in}
use Rattle.mls_tree_array.proofs.Candidates.{off_here, off_later}
use Rattle.mls_tree_array.proofs.witnesses.first_outside.Goals as goal

pub returns-then-not-is_among : goal.returns-then-not-is_among
returns-then-not-is_among c =
    sym (sym c.loop-node.invariant
    ∙ off_here (numbers_in c.args.first c.args.end c.args.leaves.now) c.args.nodes.now c.loop-node.node-index (omega arith) (sym c.is_among.ensures ∙ c.if-not-is_among.true))

pub loop-node-preserved : goal.loop-node-preserved
loop-node-preserved c =
    off_later (numbers_in c.args.first c.args.end c.args.leaves.now) c.args.nodes.now c.loop-node.node-index (omega arith) (sym c.is_among.ensures ∙ c.if-not-is_among.false)
    ∙ c.loop-node.invariant
