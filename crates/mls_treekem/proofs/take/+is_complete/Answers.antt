use Rattle.std.proofs.Common.{◌∙◌, ap}
use Rattle.std.proofs.lemmas.List.{nil_from_length}
use Rattle.mls_tree.specs.Tree.{term}
use Rattle.mls_treekem_model.specs.Join.{is_due}
use Rattle.mls_treekem.proofs.Taking.{complete_none, complete_short, complete_here, complete_not}
use Rattle.mls_treekem.proofs.take.+is_complete.Goals as goal

pub returns-in_default : goal.returns-in_default
returns-in_default t c = complete_none (term c.args.tree.now) c.args.joiner c.args.places.now _ (nil_from_length _ c.in_default.ensures.cases)

pub returns-in_default-split_last : goal.returns-in_default-split_last
returns-in_default-split_last t c =
    complete_short (term c.args.tree.now) c.args.joiner c.in-Some.place.now c.in-Some.lower.now c.args.places.now c.args.above.now c.in-Some.ensures.cases.0 (nil_from_length _ c.in_default-split_last.ensures.cases)

pub returns-then-is_due : goal.returns-then-is_due
returns-then-is_due t c =
    complete_here (term c.args.tree.now) c.args.joiner c.in-Some.place.now c.in-Some.lower.now c.args.places.now c.in-Some-split_last.key.now c.in-Some-split_last.lower_keys.now c.args.above.now
    c.in-Some.ensures.cases.0 c.in-Some-split_last.ensures.cases.0 c.is_due.result
    (c.is_due.ensures ∙ ap (λ p. is_due c.args.joiner p c.in-Some-split_last.key.now) c.parent.ensures)
    c.is_complete.result c.if-is_due.true c.is_complete.ensures

pub returns-else-is_due : goal.returns-else-is_due
returns-else-is_due t c =
    complete_not (term c.args.tree.now) c.args.joiner c.in-Some.place.now c.in-Some.lower.now c.args.places.now c.in-Some-split_last.key.now c.in-Some-split_last.lower_keys.now c.args.above.now
    c.in-Some.ensures.cases.0 c.in-Some-split_last.ensures.cases.0 c.is_due.result
    (c.is_due.ensures ∙ ap (λ p. is_due c.args.joiner p c.in-Some-split_last.key.now) c.parent.ensures)
    c.if-is_due.false
