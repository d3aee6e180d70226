use Rattle.std.proofs.lemmas.Result.{err_from_is_err_and}
use Rattle.std.proofs.Common.{◌∙◌, ap, refl, not}
use Rattle.mls_secret_tree.specs.Secrets.{child_secret}
use Rattle.mls_secret_tree.specs.Held.{Whole}
use Rattle.mls_secret_tree.proofs.Nodes.{answers_as, way_of_leaf, way_down, whole_at_leaf, whole_above, not_above}
use Rattle.mls_secret_tree.proofs.Refusals.{refuses_as, refuses_none, no_refusal, refused_below}
use Rattle.mls_secret_tree.proofs.node.+take_whole.Goals as goal

pub returns-then-level-eq0-clause-answer : goal.returns-then-level-eq0-clause-answer
returns-then-level-eq0-clause-answer t c =
    answers_as _ _ _ (whole_at_leaf _ _ _ c.first.result (way_of_leaf _ _ c.if-level-eq0.true) c.first.ensures) c.take_key-then-level-eq0.ensures.answer

pub returns-then-level-eq0-clause-refused : goal.returns-then-level-eq0-clause-refused
returns-then-level-eq0-clause-refused t c =
    refuses_as _ _ _ (whole_at_leaf _ _ _ c.first.result (way_of_leaf _ _ c.if-level-eq0.true) c.first.ensures) c.take_key-then-level-eq0.ensures.refused

pub returns-in_err-taken-clause-answer : goal.returns-in_err-taken-clause-answer
returns-in_err-taken-clause-answer t c =
    let p = err_from_is_err_and c.from_residual.result c.from_residual.ensures.1 in
    rw (p.1, p.2) (λ memory.
    not_above _ _ _ _ _ _ _ (way_down _ _ _ c.if-level-eq0.false c.is_right-to_right.ensures)
    (c.child_secret-own.ensures ∙ ap (child_secret c.is_right-to_right.result) c.new-parent.ensures)
    (c.in_err-taken.ensures.answer memory))

pub returns-in_err-taken-clause-refused : goal.returns-in_err-taken-clause-refused
returns-in_err-taken-clause-refused t c =
    let p = err_from_is_err_and c.from_residual.result c.from_residual.ensures.1 in
    rw (p.1, p.2) (λ n is.
    c.in_err-taken.ensures.refused n
    (refused_below _ _ _ _ _ _ n (way_down _ _ _ c.if-level-eq0.false c.is_right-to_right.ensures)
    (c.child_secret-own.ensures ∙ ap (child_secret c.is_right-to_right.result) c.new-parent.ensures)
    is))

pub returns-in_err-beside-clause-refused : goal.returns-in_err-beside-clause-refused
returns-in_err-beside-clause-refused t c =
    refuses_none _ _ _
    (whole_above _ _ _ _ _ _ _ _ _ (way_down _ _ _ c.if-level-eq0.false c.is_right-to_right.ensures)
    (c.child_secret-own.ensures ∙ ap (child_secret c.is_right-to_right.result) c.new-parent.ensures)
    (c.whole-other.ensures ∙ ap Whole (c.child_secret.ensures ∙ ap (child_secret (not c.is_right-to_right.result)) c.new-parent.ensures))
    c.in_ok-taken.ensures.answer refl)

pub returns-clause-answer : goal.returns-clause-answer
returns-clause-answer t c =
    whole_above _ _ _ _ _ _ _ _ _ (way_down _ _ _ c.if-level-eq0.false c.is_right-to_right.ensures)
    (c.child_secret-own.ensures ∙ ap (child_secret c.is_right-to_right.result) c.new-parent.ensures)
    (c.whole-other.ensures ∙ ap Whole (c.child_secret.ensures ∙ ap (child_secret (not c.is_right-to_right.result)) c.new-parent.ensures))
    c.in_ok-taken.ensures.answer c.in_ok-beside.ensures

pub returns-clause-refused : goal.returns-clause-refused
returns-clause-refused t c =
    λ n is. no_refusal _ _ n
    (whole_above _ _ _ _ _ _ _ _ _ (way_down _ _ _ c.if-level-eq0.false c.is_right-to_right.ensures)
    (c.child_secret-own.ensures ∙ ap (child_secret c.is_right-to_right.result) c.new-parent.ensures)
    (c.whole-other.ensures ∙ ap Whole (c.child_secret.ensures ∙ ap (child_secret (not c.is_right-to_right.result)) c.new-parent.ensures))
    c.in_ok-taken.ensures.answer c.in_ok-beside.ensures) is
