use Rattle.std.proofs.Common.{sym, ◌∙◌}
use Rattle.mls_member.proofs.Good.{forget_good}
use Rattle.mls_member.proofs.member.Member.forget_proposal.Goals as goal

pub returns-clause-good : goal.returns-clause-good
returns-clause-good g c = λ good.
    forget_good g.S.Suite.crypto c.args.self.now _ c.args.reference.now _ c.self.view_is c.leave_out.ensures (sym c.is_commit_pending.ensures ∙ c.if-is_commit_pending.false) good
