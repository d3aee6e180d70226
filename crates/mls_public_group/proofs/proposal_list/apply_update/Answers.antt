use Rattle.std.proofs.Common.{Ok, Err}
use Rattle.std.proofs.lemmas.Result.{err_from_is_err_and}
use Rattle.mls_tree.specs.Tree.{term}
use Rattle.mls_tree.specs.Faults.{number_of as number_of_tree}
use Rattle.mls_public_group.proofs.Folding.{update_one, update_none}
use Rattle.mls_public_group.proofs.proposal_list.apply_update.Goals as goal

pub returns-in_err-update-in-Update : goal.returns-in_err-update-in-Update
returns-in_err-update-in-Update c =
    let p = err_from_is_err_and c.from_residual-in_err-update-in-Update.result c.from_residual-in_err-update-in-Update.ensures.1 in
    rw (p.1, p.2) (λ other. update_one (term c.args.tree.now) c.args.used.now _ (Err (number_of_tree c.in_err-update-in-Update.field-0.0)) _ c.in_ok-clone-in-Update.field-0 c.used.view_is c.in-Update.is
    c.in_ok-clone-in-Update.ensures.cases (c.in_err-update-in-Update.ensures.answer.1 other))

pub returns-in_ok-update-in-Update : goal.returns-in_ok-update-in-Update
returns-in_ok-update-in-Update c =
    update_one (term c.args.tree.now) c.args.used.now _ (Ok (term c.update.new.self)) _ c.in_ok-clone-in-Update.field-0 c.used.view_is c.in-Update.is
    c.in_ok-clone-in-Update.ensures.cases c.in_ok-update-in-Update.ensures.answer

pub returns-in_default : goal.returns-in_default
returns-in_default c = update_none (term c.args.tree.now) c.args.used.now _ c.used.view_is c.in_default.not-Update
