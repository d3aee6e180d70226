use Rattle.std.proofs.Common.{refl, arith}
use Rattle.std.proofs.lemmas.Result.{err_from_is_err_and}
use Rattle.mls_tree.proofs.RefusalLaws.{one_number, not_refused}
use Rattle.mls_public_group.proofs.ShortProposal.{removal_short}
use Rattle.mls_member.proofs.Good.{not_gone, checks_at, remove_good}
use Rattle.mls_member.proofs.Own.{remove_fits, no_leaf_at}
use Rattle.mls_member.proofs.member.Member.propose_remove.Goals as goal

pub require_proposal-requires : goal.require_proposal-requires
require_proposal-requires g c = removal_short c.args.leaf (omega (arith, c.ranges.leaf.fits))

pub send_and_keep-requires : goal.send_and_keep-requires
send_and_keep-requires g c = λ _. remove_fits c.args.leaf (omega (arith, c.ranges.leaf.fits))

pub returns-clause-good : goal.returns-clause-good
returns-clause-good g c = λ good.
    remove_good g.S.Suite.crypto c.args.self.now c.send_and_keep.new.self c.args.leaf c.send_and_keep.result good (not_gone c.args.self.now _ c.self.view_is c.if-self.false)
    (checks_at g.S.Suite.crypto c.args.self.now _ c.leaf-sender.result _ c.self.view_is c.leaf-sender.ensures c.in_ok-require_proposal.ensures.answer) c.send_and_keep.ensures

pub returns-in_err-require_proposal-clause-no_leaf : goal.returns-in_err-require_proposal-clause-no_leaf
returns-in_err-require_proposal-clause-no_leaf g c = λ here n h.
    let p = err_from_is_err_and c.from_residual.result c.from_residual.ensures.1 in
    rw (p.1, p.2) (one_number _ _ (c.in_err-require_proposal.ensures.remove c.args.leaf refl) n (no_leaf_at c.args.self.now _ c.args.leaf n c.self.view_is h))

pub returns-clause-no_leaf : goal.returns-clause-no_leaf
returns-clause-no_leaf g c = λ here n h. absurd (not_refused _ _ (c.in_ok-require_proposal.ensures.remove c.args.leaf refl) n (no_leaf_at c.args.self.now _ c.args.leaf n c.self.view_is h))
