use Rattle.std.proofs.Common.{arith, sym, ◌∙◌}
use Rattle.mls_tree_model.specs.Lists.{lists_here}
use Rattle.mls_tree_array.proofs.Listed.{all_refused, all_on, all_end}
use Rattle.mls_tree_array.proofs.lists.lists_here.Goals as goal

pub returns-then-not-may_be_listed-clause-right : goal.returns-then-not-may_be_listed-clause-right
unfolding lists_here
returns-then-not-may_be_listed-clause-right c =
    sym (sym c.loop-leaf.invariant
    ∙ all_refused _ c.unmerged_leaves-leaf-items.result.now c.loop-leaf.leaf-index (omega arith) (sym c.may_be_listed.ensures ∙ c.if-not-may_be_listed.true))

pub loop-leaf-preserved : goal.loop-leaf-preserved
loop-leaf-preserved c =
    all_on _ c.unmerged_leaves-leaf-items.result.now c.loop-leaf.leaf-index (omega arith) (sym c.may_be_listed.ensures ∙ c.if-not-may_be_listed.false)
    ∙ c.loop-leaf.invariant

pub returns-clause-right : goal.returns-clause-right
unfolding lists_here
returns-clause-right c =
    sym (sym c.loop-leaf.invariant
    ∙ all_end _ c.unmerged_leaves-leaf-items.result.now c.loop-leaf.leaf-index (omega arith))
