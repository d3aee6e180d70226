use Rattle.std.proofs.Common.{◌+◌, ◌*◌, ◌≤◌, arith, ap, ◌∙◌, sym, [], ◌∷◌, ◌++◌}
use Rattle.mls_tree_model.specs.Arrays.{parent_cell}
use Rattle.std.specs.Vec.Iter.{into_iter_items}
use Rattle.mls_tree_model.specs.Merge.{keys_beside, hash_beside}
use Rattle.mls_tree_model.specs.Term.{size}
use Rattle.mls_tree_array.specs.Changes.{change}
use Rattle.mls_tree_array.specs.Merging.{first_if, rest_if}
use Rattle.mls_tree_array.proofs.ChangeSteps.{merge_here, merge_over, first_is, rest_is, pushed_below, side_below, added_then}
use Rattle.mls_tree_array.proofs.changes.+push_merge.Goals as goal

pub returns-in-None-clause-made : goal.returns-in-None-clause-made
returns-in-None-clause-made t c = λ ks above made.
    c.push_reserved.ensures.items
    ∙ ap (λ s. c.args.out.now.items ++ (change c.number-place.result s ∷ [])) c.into_slot-slot.ensures
    ∙ ap (λ ys. c.args.out.now.items ++ ys) (sym (merge_here c.args.tree.now _ c.in-None.ensures.1 c.args.i _ c.number-place.ensures ks above c.args.leaf))

pub returns-in-None-clause-within : goal.returns-in-None-clause-within
returns-in-None-clause-within t c = λ n le all. pushed_below c.args.tree.now _ _ c.number-place.result _ c.number-place.ensures c.push_reserved.ensures.items n le all

pub returns-in-Some-clause-made : goal.returns-in-Some-clause-made
returns-in-Some-clause-made t c = λ ks above made.
    let ps = into_iter_items c.args.parents.now in
    let o = c.in-Some.step.other in
    let reached = c.is_reached.ensures o.first in
    let cell =
    c.next_cell-slot.ensures.cell
    ∙ ap (λ w. parent_cell (first_if w ps)) reached
    ∙ ap parent_cell (first_is c.args.tree.now c.args.i c.in-Some.step.side _ o c.in-Some.ensures _ c.number-place.ensures ks above ps made) in
    let rest =
    c.next_cell-slot.ensures.rest
    ∙ ap (λ w. rest_if w ps) reached
    ∙ rest_is c.args.tree.now c.args.i c.in-Some.step.side _ o c.in-Some.ensures _ c.number-place.ensures ks above ps made in
    added_then _ _ _ _ _ (c.push_reserved-in-Some.ensures.items ∙ ap (λ s. c.args.out.now.items ++ (change c.number-place.result s ∷ [])) cell)
    (c.push_merge.ensures.made (keys_beside o.first o.term ks) (hash_beside o.first o.term ks above) rest)
    ∙ ap (λ ys. c.args.out.now.items ++ ys) (sym (merge_over c.args.tree.now c.args.i c.in-Some.step.side _ o c.in-Some.ensures _ c.number-place.ensures ks above c.args.leaf))

pub returns-in-Some-clause-within : goal.returns-in-Some-clause-within
returns-in-Some-clause-within t c = λ n le all.
    let side = side_below c.args.tree.now c.args.i c.in-Some.step.side _ c.in-Some.step.other c.in-Some.ensures in
    let low : 2 * c.in-Some.step.side.first + size c.in-Some.step.side.term ≤ n = omega arith in
    c.push_merge.ensures.within n low
    (pushed_below c.args.tree.now _ _ c.number-place.result _ c.number-place.ensures c.push_reserved-in-Some.ensures.items n le all)
