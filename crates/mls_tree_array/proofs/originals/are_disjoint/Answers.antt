use Rattle.std.proofs.Common.{arith, sym, not, ◌∙◌, ap}
use Rattle.mls_tree_array.proofs.Listed.{all_refused, all_on, all_end}
use Rattle.mls_tree_array.proofs.originals.are_disjoint.Goals as goal

pub returns-then-has : goal.returns-then-has
returns-then-has c =
    sym (sym c.loop-leaf.invariant
    ∙ all_refused _ c.args.leaves.now c.loop-leaf.leaf-index (omega arith) (ap not (sym c.has.ensures ∙ c.if-has.true)))

pub loop-leaf-preserved : goal.loop-leaf-preserved
loop-leaf-preserved c =
    all_on _ c.args.leaves.now c.loop-leaf.leaf-index (omega arith) (ap not (sym c.has.ensures ∙ c.if-has.false))
    ∙ c.loop-leaf.invariant

pub returns : goal.returns
returns c =
    sym (sym c.loop-leaf.invariant
    ∙ all_end _ c.args.leaves.now c.loop-leaf.leaf-index (omega arith))
