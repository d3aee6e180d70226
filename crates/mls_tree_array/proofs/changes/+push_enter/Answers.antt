use Rattle.std.proofs.Common.{ap, ◌∙◌, sym, [], ◌∷◌, ◌++◌}
use Rattle.mls_tree_array.specs.Changes.{change}
use Rattle.mls_tree_array.proofs.ChangeSteps.{enter_here, enter_over, added_then}
use Rattle.mls_tree_array.proofs.Results.{on_ok}
use Rattle.mls_tree_array.proofs.changes.+push_enter.Goals as goal

pub returns-in-None : goal.returns-in-None
returns-in-None t c =
    c.push_reserved.ensures.items
    ∙ ap (λ s. c.args.out.now.items ++ (change c.number-place.result s ∷ [])) c.into_slot-slot.ensures
    ∙ ap (λ ys. c.args.out.now.items ++ ys) (sym (enter_here c.args.tree.now _ c.in-None.ensures.1 c.args.i _ c.number-place.ensures c.args.leaf))

pub returns-in_ok-slot-in-Some : goal.returns-in_ok-slot-in-Some
returns-in_ok-slot-in-Some t c =
    on_ok c.push_enter.result c.push_enter.ensures (λ added.
    added_then _ _ _ _ _ (c.push_reserved-in-Some.ensures.items ∙ ap (λ s. c.args.out.now.items ++ (change c.number-place.result s ∷ [])) c.in_ok-slot-in-Some.ensures) added
    ∙ ap (λ ys. c.args.out.now.items ++ ys) (sym (enter_over c.args.tree.now c.args.i c.in-Some.step.side _ c.in-Some.step.other c.in-Some.ensures _ c.number-place.ensures c.args.leaf)))
