use Rattle.std.proofs.Common.{refl}
use Rattle.std.proofs.lemmas.Result.{err_from_is_err_and}
use Rattle.mls_member.proofs.CommitSteps.{follow_fails, follow_removed, climb_fails, follow_does}
use Rattle.mls_member.proofs.member.Member.follow_commit.Goals as goal

pub returns-in_err-received : goal.returns-in_err-received
returns-in_err-received g c =
    let p = err_from_is_err_and c.from_residual.result c.from_residual.ensures.1 in
    rw (p.1, p.2) (λ content is. (refl, λ h. follow_fails g.S.Suite.crypto c.args.self.now c.args.committer c.args.commit.now content c.args.signature.now c.args.tag.now _ (c.in_err-received.ensures.answer content is h)))

pub returns-then-is_removed : goal.returns-then-is_removed
returns-then-is_removed g c = λ content is.
    follow_removed g.S.Suite.crypto c.args.self.now _ c.args.committer c.args.commit.now content c.args.signature.now c.args.tag.now _ _ (c.in_ok-received.ensures.answer content is) c.if-is_removed.true c.leave.ensures

pub returns-in-Err : goal.returns-in-Err
returns-in-Err g c = λ content is.
    (refl, λ h. climb_fails g.S.Suite.crypto c.args.self.now c.args.committer c.args.commit.now content c.args.signature.now c.args.tag.now _ _ _ (c.in_ok-received.ensures.answer content is) c.if-is_removed.false (c.in-Err.ensures.answer h))

pub returns : goal.returns
returns g c = λ content is.
    follow_does g.S.Suite.crypto c.args.self.now _ c.args.committer c.args.commit.now content c.args.signature.now c.args.tag.now _ _ _ _ _ (c.in_ok-received.ensures.answer content is) c.if-is_removed.false c.in-Ok.ensures.answer c.in-Ok.ensures.leaf c.enter_epoch.ensures
