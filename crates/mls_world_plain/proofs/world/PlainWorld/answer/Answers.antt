use Rattle.std.proofs.Common.{◌≡◌, List, Err, sym, subst}
use Rattle.std.proofs.lemmas.Result.{err_from_is_err_and}
use Rattle.mls_tree.proofs.RefusalLaws.{one_number, not_refused}
use Rattle.mls_leaf.specs.declared.extension.Extension.{Extension}
use Rattle.mls_model.specs.declared.event.WorldItem.{WorldItem}
use Rattle.mls_model.specs.WorldCalls.{drop_answer}
use Rattle.mls_world_plain.specs.EarlyChecks.{early_commit_checks, early_extensions_checks}
use Rattle.mls_world_plain.proofs.Stepping.{of_candidate, of_create, of_add, of_update, of_remove, of_extensions, of_commit, of_drop, of_delivery, of_join}
use Rattle.mls_world_plain.proofs.world.PlainWorld.answer.Goals as goal

pub returns-in_err-candidate-in-Candidate-clause-outright : goal.returns-in_err-candidate-in-Candidate-clause-outright
returns-in_err-candidate-in-Candidate-clause-outright g c = λ n h. absurd (of_candidate g.S.Suite.crypto.number c.args.self.now c.args.event.now n _ _ c.in-Candidate.is h)

pub returns-in_ok-candidate-in-Candidate-clause-outright : goal.returns-in_ok-candidate-in-Candidate-clause-outright
returns-in_ok-candidate-in-Candidate-clause-outright g c = λ n h. of_candidate g.S.Suite.crypto.number c.args.self.now c.args.event.now n _ _ c.in-Candidate.is h

pub returns-in_err-member-in-Create-clause-outright : goal.returns-in_err-member-in-Create-clause-outright
returns-in_err-member-in-Create-clause-outright g c = λ n h.
    let p = err_from_is_err_and c.from_residual-in_err-member-in-Create.result c.from_residual-in_err-member-in-Create.ensures.1 in
    rw (p.1, p.2) (c.in_err-member-in-Create.ensures.outright n (of_create g.S.Suite.crypto.number c.args.self.now c.args.event.now n _ _ _ c.in-Create.is h))

pub returns-in_ok-member-in-Create-clause-outright : goal.returns-in_ok-member-in-Create-clause-outright
returns-in_ok-member-in-Create-clause-outright g c = λ n h. c.in_ok-member-in-Create.ensures.outright n (of_create g.S.Suite.crypto.number c.args.self.now c.args.event.now n _ _ _ c.in-Create.is h)

pub returns-in_err-message-in-ProposeAdd-clause-outright : goal.returns-in_err-message-in-ProposeAdd-clause-outright
returns-in_err-message-in-ProposeAdd-clause-outright g c = λ n h.
    let p = err_from_is_err_and c.from_residual-in_err-message-in-ProposeAdd.result c.from_residual-in_err-message-in-ProposeAdd.ensures.1 in
    rw (p.1, p.2) (c.in_err-message-in-ProposeAdd.ensures.outright n (of_add g.S.Suite.crypto.number c.args.self.now c.args.event.now n _ _ c.in-ProposeAdd.is h))

pub returns-in_ok-message-in-ProposeAdd-clause-outright : goal.returns-in_ok-message-in-ProposeAdd-clause-outright
returns-in_ok-message-in-ProposeAdd-clause-outright g c = λ n h. c.in_ok-message-in-ProposeAdd.ensures.outright n (of_add g.S.Suite.crypto.number c.args.self.now c.args.event.now n _ _ c.in-ProposeAdd.is h)

pub returns-in_err-message-in-ProposeUpdate-clause-outright : goal.returns-in_err-message-in-ProposeUpdate-clause-outright
returns-in_err-message-in-ProposeUpdate-clause-outright g c = λ n h.
    let p = err_from_is_err_and c.from_residual-in_err-message-in-ProposeUpdate.result c.from_residual-in_err-message-in-ProposeUpdate.ensures.1 in
    rw (p.1, p.2) (c.in_err-message-in-ProposeUpdate.ensures.outright n (of_update g.S.Suite.crypto.number c.args.self.now c.args.event.now n _ _ c.in-ProposeUpdate.is h))

pub returns-in_ok-message-in-ProposeUpdate-clause-outright : goal.returns-in_ok-message-in-ProposeUpdate-clause-outright
returns-in_ok-message-in-ProposeUpdate-clause-outright g c = λ n h. c.in_ok-message-in-ProposeUpdate.ensures.outright n (of_update g.S.Suite.crypto.number c.args.self.now c.args.event.now n _ _ c.in-ProposeUpdate.is h)

pub returns-in_err-message-in-ProposeRemove-clause-outright : goal.returns-in_err-message-in-ProposeRemove-clause-outright
returns-in_err-message-in-ProposeRemove-clause-outright g c = λ n h.
    let p = err_from_is_err_and c.from_residual-in_err-message-in-ProposeRemove.result c.from_residual-in_err-message-in-ProposeRemove.ensures.1 in
    rw (p.1, p.2) (c.in_err-message-in-ProposeRemove.ensures.outright n (of_remove g.S.Suite.crypto.number c.args.self.now c.args.event.now n _ _ c.in-ProposeRemove.is h))

pub returns-in_ok-message-in-ProposeRemove-clause-outright : goal.returns-in_ok-message-in-ProposeRemove-clause-outright
returns-in_ok-message-in-ProposeRemove-clause-outright g c = λ n h. c.in_ok-message-in-ProposeRemove.ensures.outright n (of_remove g.S.Suite.crypto.number c.args.self.now c.args.event.now n _ _ c.in-ProposeRemove.is h)

pub returns-in_err-message-in-ProposeExtensions-clause-outright : goal.returns-in_err-message-in-ProposeExtensions-clause-outright
returns-in_err-message-in-ProposeExtensions-clause-outright g c = λ n h.
    let p = err_from_is_err_and c.from_residual-in_err-message-in-ProposeExtensions.result c.from_residual-in_err-message-in-ProposeExtensions.ensures.1 in
    rw (p.1, p.2) (c.in_err-message-in-ProposeExtensions.ensures.outright n
    (subst (λ (l : List Extension). early_extensions_checks c.args.self.now c.in-ProposeExtensions.member l ≡ Err n) (sym c.deref-in-ProposeExtensions.ensures.value) (of_extensions g.S.Suite.crypto.number c.args.self.now c.args.event.now n _ _ c.in-ProposeExtensions.is h)))

pub returns-in_ok-message-in-ProposeExtensions-clause-outright : goal.returns-in_ok-message-in-ProposeExtensions-clause-outright
returns-in_ok-message-in-ProposeExtensions-clause-outright g c = λ n h.
    c.in_ok-message-in-ProposeExtensions.ensures.outright n (subst (λ (l : List Extension). early_extensions_checks c.args.self.now c.in-ProposeExtensions.member l ≡ Err n) (sym c.deref-in-ProposeExtensions.ensures.value) (of_extensions g.S.Suite.crypto.number c.args.self.now c.args.event.now n _ _ c.in-ProposeExtensions.is h))

pub returns-in_err-message-in-Commit-clause-outright : goal.returns-in_err-message-in-Commit-clause-outright
returns-in_err-message-in-Commit-clause-outright g c = λ n h.
    let p = err_from_is_err_and c.from_residual-in_err-message-in-Commit.result c.from_residual-in_err-message-in-Commit.ensures.1 in
    rw (p.1, p.2) (c.in_err-message-in-Commit.ensures.outright n
    (subst (λ (l : List WorldItem). early_commit_checks c.args.self.now c.in-Commit.member l ≡ Err n) (sym c.deref-in-Commit.ensures.value) (of_commit g.S.Suite.crypto.number c.args.self.now c.args.event.now n _ _ _ _ c.in-Commit.is h)))

pub returns-in_ok-message-in-Commit-clause-outright : goal.returns-in_ok-message-in-Commit-clause-outright
returns-in_ok-message-in-Commit-clause-outright g c = λ n h.
    c.in_ok-message-in-Commit.ensures.outright n (subst (λ (l : List WorldItem). early_commit_checks c.args.self.now c.in-Commit.member l ≡ Err n) (sym c.deref-in-Commit.ensures.value) (of_commit g.S.Suite.crypto.number c.args.self.now c.args.event.now n _ _ _ _ c.in-Commit.is h))

pub returns-in_err-pending-in-DropPending-clause-outright : goal.returns-in_err-pending-in-DropPending-clause-outright
returns-in_err-pending-in-DropPending-clause-outright g c = λ n h.
    let p = err_from_is_err_and c.from_residual-in_err-pending-in-DropPending.result c.from_residual-in_err-pending-in-DropPending.ensures.1 in
    rw (p.1, p.2) (one_number (drop_answer c.args.self.now c.in-DropPending.member) _ c.in_err-pending-in-DropPending.ensures.outright n (of_drop g.S.Suite.crypto.number c.args.self.now c.args.event.now n _ c.in-DropPending.is h))

pub returns-in_ok-pending-in-DropPending-clause-outright : goal.returns-in_ok-pending-in-DropPending-clause-outright
returns-in_ok-pending-in-DropPending-clause-outright g c = λ n h. not_refused (drop_answer c.args.self.now c.in-DropPending.member) _ c.in_ok-pending-in-DropPending.ensures.does n (of_drop g.S.Suite.crypto.number c.args.self.now c.args.event.now n _ c.in-DropPending.is h)

pub returns-in_err-effect-in-Deliver-clause-outright : goal.returns-in_err-effect-in-Deliver-clause-outright
returns-in_err-effect-in-Deliver-clause-outright g c = λ n h.
    let p = err_from_is_err_and c.from_residual-in_err-effect-in-Deliver.result c.from_residual-in_err-effect-in-Deliver.ensures.1 in
    rw (p.1, p.2) (c.in_err-effect-in-Deliver.ensures.outright n (of_delivery g.S.Suite.crypto.number c.args.self.now c.args.event.now n _ _ c.in-Deliver.is h))

pub returns-in_ok-effect-in-Deliver-clause-outright : goal.returns-in_ok-effect-in-Deliver-clause-outright
returns-in_ok-effect-in-Deliver-clause-outright g c = λ n h. c.in_ok-effect-in-Deliver.ensures.outright n (of_delivery g.S.Suite.crypto.number c.args.self.now c.args.event.now n _ _ c.in-Deliver.is h)

pub returns-in_err-member-in-Join-clause-outright : goal.returns-in_err-member-in-Join-clause-outright
returns-in_err-member-in-Join-clause-outright g c = λ n h.
    let p = err_from_is_err_and c.from_residual-in_err-member-in-Join.result c.from_residual-in_err-member-in-Join.ensures.1 in
    rw (p.1, p.2) (c.in_err-member-in-Join.ensures.outright n (of_join g.S.Suite.crypto.number c.args.self.now c.args.event.now n _ _ c.in-Join.is h))

pub returns-in_ok-member-in-Join-clause-outright : goal.returns-in_ok-member-in-Join-clause-outright
returns-in_ok-member-in-Join-clause-outright g c = λ n h. c.in_ok-member-in-Join.ensures.outright n (of_join g.S.Suite.crypto.number c.args.self.now c.args.event.now n _ _ c.in-Join.is h)
