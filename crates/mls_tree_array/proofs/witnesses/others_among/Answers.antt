use Rattle.std.proofs.Common.{arith, sym, ◌∙◌}
use Rattle.mls_tree_array.proofs.Listed.{all_refused, all_on, all_end}
use Rattle.mls_tree_array.proofs.witnesses.others_among.Goals as goal

pub returns-then-not-is_or_among : goal.returns-then-not-is_or_among
returns-then-not-is_or_among c =
    sym (sym c.loop-x.invariant
    ∙ all_refused _ c.args.nodes.now c.loop-x.x-index (omega arith) (sym c.is_or_among.ensures ∙ c.if-not-is_or_among.true))

pub loop-x-preserved : goal.loop-x-preserved
loop-x-preserved c =
    all_on _ c.args.nodes.now c.loop-x.x-index (omega arith) (sym c.is_or_among.ensures ∙ c.if-not-is_or_among.false)
    ∙ c.loop-x.invariant

pub returns : goal.returns
returns c =
    sym (sym c.loop-x.invariant
    ∙ all_end _ c.args.nodes.now c.loop-x.x-index (omega arith))
