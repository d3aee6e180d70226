use Rattle.std.proofs.Common.{arith, sym, ◌∙◌}
use Rattle.mls_tree_array.proofs.Listed.{all_refused, all_on, all_end}
use Rattle.mls_tree_array.proofs.witnesses.leaves_among.Goals as goal

pub returns-then-not-is_out_or_other : goal.returns-then-not-is_out_or_other
returns-then-not-is_out_or_other c =
    sym (sym c.loop-leaf.invariant
    ∙ all_refused _ c.args.leaves.now c.loop-leaf.leaf-index (omega arith) (sym c.is_out_or_other.ensures ∙ c.if-not-is_out_or_other.true))

pub loop-leaf-preserved : goal.loop-leaf-preserved
loop-leaf-preserved c =
    all_on _ c.args.leaves.now c.loop-leaf.leaf-index (omega arith) (sym c.is_out_or_other.ensures ∙ c.if-not-is_out_or_other.false)
    ∙ c.loop-leaf.invariant

pub returns : goal.returns
returns c =
    sym (sym c.loop-leaf.invariant
    ∙ all_end _ c.args.leaves.now c.loop-leaf.leaf-index (omega arith))
