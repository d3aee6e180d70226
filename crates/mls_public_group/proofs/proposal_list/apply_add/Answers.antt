use Rattle.std.proofs.lemmas.Result.{err_from_is_err_and}
use Rattle.mls_tree.specs.Tree.{term}
use Rattle.mls_tree.specs.Faults.{number_of as number_of_tree}
use Rattle.mls_public_group.proofs.Folding.{add_done, add_refused, add_none}
use Rattle.mls_public_group.proofs.proposal_list.apply_add.Goals as goal

pub returns-in_err-leaf-in-Add : goal.returns-in_err-leaf-in-Add
returns-in_err-leaf-in-Add c =
    let p = err_from_is_err_and c.from_residual-in_err-leaf-in-Add.result c.from_residual-in_err-leaf-in-Add.ensures.1 in
    rw (p.1, p.2) (λ other. add_refused (term c.args.tree.now) c.args.used.now _ c.args.added.now.items c.used.view_is c.in-Add.offered c.in_ok-clone-in-Add.field-0 (number_of_tree c.in_err-leaf-in-Add.field-0.0) c.in-Add.is
    c.in_ok-clone-in-Add.ensures.cases (c.in_err-leaf-in-Add.ensures.answer.1 other))

pub returns-in_ok-push-in-Add : goal.returns-in_ok-push-in-Add
returns-in_ok-push-in-Add c =
    rw c.in_ok-push-in-Add.ensures.items
    (add_done (term c.args.tree.now) c.args.used.now _ c.args.added.now.items c.used.view_is c.in-Add.offered c.in_ok-clone-in-Add.field-0 _ (term c.add.new.self) c.in-Add.is
    c.in_ok-clone-in-Add.ensures.cases c.in_ok-leaf-in-Add.ensures.answer)

pub returns-in_default : goal.returns-in_default
returns-in_default c = add_none (term c.args.tree.now) c.args.used.now _ c.args.added.now.items c.used.view_is c.in_default.not-Add
