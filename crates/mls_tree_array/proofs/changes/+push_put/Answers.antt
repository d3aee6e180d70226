use Rattle.std.proofs.Common.{ap, ◌∙◌, sym, [], ◌∷◌, ◌++◌}
use Rattle.mls_tree_array.specs.Changes.{change}
use Rattle.mls_tree_array.proofs.ChangeSteps.{put_here, put_over, added_then}
use Rattle.mls_tree_array.proofs.changes.+push_put.Goals as goal

pub returns-in-None : goal.returns-in-None
returns-in-None t c =
    c.push_reserved.ensures.items
    ∙ ap (λ s. c.args.out.now.items ++ (change c.number-place.result s ∷ [])) c.slot_of-slot.ensures
    ∙ ap (λ ys. c.args.out.now.items ++ ys) (sym (put_here c.args.tree.now _ c.in-None.ensures.1 c.args.i _ c.number-place.ensures c.args.leaf))

pub returns-in-Some : goal.returns-in-Some
returns-in-Some t c =
    added_then _ _ _ _ _ (c.push_reserved-in-Some.ensures.items ∙ ap (λ s. c.args.out.now.items ++ (change c.number-place.result s ∷ [])) c.blank-slot.ensures) c.push_put.ensures
    ∙ ap (λ ys. c.args.out.now.items ++ ys) (sym (put_over c.args.tree.now c.args.i c.in-Some.step.side _ c.in-Some.step.other c.in-Some.ensures _ c.number-place.ensures c.args.leaf))
