use Rattle.std.proofs.Common.{ap, ◌∙◌, sym, Ok, Err}
use Rattle.mls_tree.specs.Faults.{number_of}
use Rattle.mls_tree.proofs.Answering.{path_refused, path_found}
use Rattle.mls_tree.proofs.RefusalLaws.{one_number, not_refused}
use Rattle.mls_tree.proofs.tree.PublicTree.filtered_path.Goals as goal

pub returns-in-Err-clause-answer : goal.returns-in-Err-clause-answer
returns-in-Err-clause-answer c = λ _. path_refused _ _ c.in-Err.ensures.1 ∙ ap (λ e. Err (number_of e)) (sym c.in-Err.ensures.0)

pub returns-clause-answer : goal.returns-clause-answer
returns-clause-answer c =
    path_found _ _ c.in-Ok.ensures
    ∙ ap Ok (sym (rw (c.new-nodes.ensures.items, c.subtree.ensures) at c.in_ok-filtered_path.ensures))

pub returns-in-Err-clause-outright : goal.returns-in-Err-clause-outright
returns-in-Err-clause-outright c = one_number _ _ (path_refused _ _ c.in-Err.ensures.1 ∙ ap (λ e. Err (number_of e)) (sym c.in-Err.ensures.0))

pub returns-in_err-filtered_path-clause-outright : goal.returns-in_err-filtered_path-clause-outright
returns-in_err-filtered_path-clause-outright c = λ n h. absurd (not_refused _ _ (path_found _ _ c.in-Ok.ensures) n h)

pub returns-clause-outright : goal.returns-clause-outright
returns-clause-outright c = not_refused _ _ (path_found _ _ c.in-Ok.ensures)
