use Rattle.std.proofs.Common.{refl, arith}
use Rattle.std.proofs.lemmas.Result.{err_from_is_err_and}
use Rattle.mls_wire.specs.Combine.{case, others, uint32}
use Rattle.mls_leaf.specs.GroupExtensions.{group_extensions}
use Rattle.mls_leaf.specs.KeyPackage.{key_package}
use Rattle.mls_leaf.specs.Leaf.{leaf_node}
use Rattle.mls_leaf.specs.Proposal.{proposal}
use Rattle.mls_leaf.proofs.Cases.{pass_other}
use Rattle.mls_leaf.proofs.proposal.ProposalCodec.check.Goals as goal

pub returns-in_err-check-in-7 : goal.returns-in_err-check-in-7
unfolding proposal
returns-in_err-check-in-7 c =
    let p = err_from_is_err_and c.from_residual-in_err-check-in-7.result c.from_residual-in_err-check-in-7.ensures.1 in
    rw (p.1, p.2, c.in_ok-u16.ensures, c.in-7.is) c.in_err-check-in-7.ensures

pub returns-in_ok-check-in-7 : goal.returns-in_ok-check-in-7
unfolding proposal
returns-in_ok-check-in-7 c = rw (c.in_ok-u16.ensures, c.in-7.is) c.in_ok-check-in-7.ensures

pub returns-in_default : goal.returns-in_default
unfolding proposal
returns-in_default c =
    rw c.in_ok-u16.ensures
    (pass_other 1 c.in_ok-u16.field-0 key_package (case 2 leaf_node (case 3 uint32 (case 7 group_extensions (others 12)))) c.u16.new.self 12 (λ e. absurd (omega arith))
    (pass_other 2 c.in_ok-u16.field-0 leaf_node (case 3 uint32 (case 7 group_extensions (others 12))) c.u16.new.self 12 (λ e. absurd (omega arith))
    (pass_other 3 c.in_ok-u16.field-0 uint32 (case 7 group_extensions (others 12)) c.u16.new.self 12 (λ e. absurd (omega arith))
    (pass_other 7 c.in_ok-u16.field-0 group_extensions (others 12) c.u16.new.self 12 (λ e. absurd (omega arith)) refl))))
