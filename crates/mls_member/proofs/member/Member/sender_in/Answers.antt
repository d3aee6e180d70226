use Rattle.std.proofs.lemmas.Result.{err_from_is_err_and}
use Rattle.mls_member.proofs.ContentLaws.{public_of, other_of, no_message}
use Rattle.mls_member.proofs.EarlyChecks.{public_lends}
use Rattle.mls_member.proofs.member.Member.sender_in.Goals as goal

pub returns-in_err-view : goal.returns-in_err-view
returns-in_err-view g c =
    let p = err_from_is_err_and c.from_residual.result c.from_residual.ensures.1 in
    rw (p.1, p.2) (no_message g.S.Suite.crypto c.args.self.now c.args.bytes.now _ c.in_err-view.ensures.read).1

pub returns-in-PublicMessage : goal.returns-in-PublicMessage
returns-in-PublicMessage g c = public_lends c.args.self.now c.args.bytes.now _ _ (public_of _ _ _ c.in_ok-view.ensures.read c.in-PublicMessage.is) c.sender_of.ensures

pub returns-in_default : goal.returns-in_default
returns-in_default g c = (other_of g.S.Suite.crypto c.args.self.now c.args.bytes.now _ c.in_ok-view.ensures.read c.in_default.not-PublicMessage).1
