use Rattle.std.proofs.Common.{refl, subst, ℕ, Result, Ok, Err}
use Rattle.std.proofs.lemmas.Result.{err_from_is_err_and}
use Rattle.mls_wire.specs.Checks.{Passed, passed, Answers, AnswersOutright}
use Rattle.mls_leaf.specs.KeyPackage.{key_package}
use Rattle.mls_leaf.specs.Leaf.{leaf_node}
use Rattle.mls_model.specs.Proposals.{proposal_checks}
use Rattle.mls_public_group.specs.Faults.{number_of}
use Rattle.mls_public_group.specs.Short.{IsProposalBelow}
use Rattle.mls_public_group.specs.declared.error.GroupError.{GroupError}
use Rattle.mls_public_group.proofs.ShortLaws.{short_below, add_below, update_below}
use Rattle.mls_public_group.proofs.group.PublicGroup.require_proposal.Goals as goal

pub key_package-requires : goal.key_package-requires
key_package-requires g c =
    let x = c.in-Add.offered in
    short_below key_package x (add_below 268435456 x (subst (IsProposalBelow 268435456) c.in-Add.is c.requires))

pub require_update-requires : goal.require_update-requires
require_update-requires g c =
    let x = c.in-Update.leaf in
    short_below leaf_node x (update_below 268435456 x (subst (IsProposalBelow 268435456) c.in-Update.is c.requires))

pub returns-in_err-key_package-in-Add-clause-answer : goal.returns-in_err-key_package-in-Add-clause-answer
unfolding proposal_checks
returns-in_err-key_package-in-Add-clause-answer g c =
    let p = err_from_is_err_and c.from_residual.result c.from_residual.ensures.1 in
    rw (p.1, p.2, c.in-Add.is) c.in_err-key_package-in-Add.ensures

pub returns-in_ok-key_package-in-Add-clause-answer : goal.returns-in_ok-key_package-in-Add-clause-answer
unfolding proposal_checks
returns-in_ok-key_package-in-Add-clause-answer g c = rw c.in-Add.is c.in_ok-key_package-in-Add.ensures

pub returns-in-Update-clause-answer : goal.returns-in-Update-clause-answer
unfolding proposal_checks
returns-in-Update-clause-answer g c = rw c.in-Update.is c.require_update.ensures.answer

-- what is answered outright is answered
pub outright_answered : {B : Type 0} (defined : Result Passed ℕ) (r : Result B GroupError) → AnswersOutright (λ (_ : B). passed) number_of defined r → Answers (λ (_ : B). passed) number_of defined r
outright_answered defined (Ok x) h = h
outright_answered defined (Err e) h = λ _. h

pub returns-in-Remove-clause-answer : goal.returns-in-Remove-clause-answer
unfolding proposal_checks
returns-in-Remove-clause-answer g c = rw c.in-Remove.is (outright_answered _ c.require_member.result c.require_member.ensures)

pub returns-in-GroupContextExtensions-clause-answer : goal.returns-in-GroupContextExtensions-clause-answer
unfolding proposal_checks
returns-in-GroupContextExtensions-clause-answer g c = rw c.in-GroupContextExtensions.is refl
