use Rattle.std.proofs.Common.{ap, ◌∙◌, sym, refl, Ok, Err}
use Rattle.mls_tree.specs.Faults.{number_of}
use Rattle.mls_tree.proofs.EditsKeepGood.{remove_good, remove_sound}
use Rattle.mls_tree.proofs.Answering.{remove_refused, remove_done}
use Rattle.mls_tree.proofs.RefusalLaws.{one_number, not_refused}
use Rattle.mls_tree.proofs.tree.PublicTree.remove.Goals as goal

pub returns-in-Err-clause-answer : goal.returns-in-Err-clause-answer
returns-in-Err-clause-answer c = (refl, λ _. remove_refused _ _ c.in-Err.ensures.1 ∙ ap (λ e. Err (number_of e)) (sym c.in-Err.ensures.0))

pub returns-in-Err-clause-outright : goal.returns-in-Err-clause-outright
returns-in-Err-clause-outright c = one_number _ _ (remove_refused _ _ c.in-Err.ensures.1 ∙ ap (λ e. Err (number_of e)) (sym c.in-Err.ensures.0))

pub returns-in_err-remove_inside-clause-outright : goal.returns-in_err-remove_inside-clause-outright
returns-in_err-remove_inside-clause-outright c = λ n h. absurd (not_refused _ _ (remove_done _ _ c.in-Ok.ensures) n h)

pub returns-then-is_last_beside-clause-answer : goal.returns-then-is_last_beside-clause-answer
returns-then-is_last_beside-clause-answer c = remove_done _ _ c.in-Ok.ensures ∙ ap Ok (sym c.in_ok-remove_inside.ensures.tree)

pub returns-then-is_last_beside-clause-outright : goal.returns-then-is_last_beside-clause-outright
returns-then-is_last_beside-clause-outright c = not_refused _ _ (remove_done _ _ c.in-Ok.ensures)

pub returns-then-is_last_beside-clause-good : goal.returns-then-is_last_beside-clause-good
returns-then-is_last_beside-clause-good c = remove_good _ _ c.args.i (returns-then-is_last_beside-clause-answer c)

pub returns-then-is_last_beside-clause-sound : goal.returns-then-is_last_beside-clause-sound
returns-then-is_last_beside-clause-sound c = remove_sound _ _ c.args.i (returns-then-is_last_beside-clause-answer c)

pub returns-in_err-remove_and_trim-clause-outright : goal.returns-in_err-remove_and_trim-clause-outright
returns-in_err-remove_and_trim-clause-outright c = λ n h. absurd (not_refused _ _ (remove_done _ _ c.in-Ok.ensures) n h)

pub returns-clause-answer : goal.returns-clause-answer
returns-clause-answer c = remove_done _ _ c.in-Ok.ensures ∙ ap Ok (sym c.in_ok-remove_and_trim.ensures.tree)

pub returns-clause-outright : goal.returns-clause-outright
returns-clause-outright c = not_refused _ _ (remove_done _ _ c.in-Ok.ensures)

pub returns-clause-good : goal.returns-clause-good
returns-clause-good c = remove_good _ _ c.args.i (returns-clause-answer c)

pub returns-clause-sound : goal.returns-clause-sound
returns-clause-sound c = remove_sound _ _ c.args.i (returns-clause-answer c)
