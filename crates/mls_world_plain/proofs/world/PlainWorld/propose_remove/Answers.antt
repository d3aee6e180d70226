use Rattle.std.proofs.Common.{◌∙◌}
use Rattle.std.proofs.lemmas.Result.{err_from_is_err_and}
use Rattle.mls_world_plain.proofs.EarlyChecks.{is_there, not_there}
use Rattle.mls_world_plain.proofs.world.PlainWorld.propose_remove.Goals as goal

pub returns-in_err-require_member-clause-outright : goal.returns-in_err-require_member-clause-outright
returns-in_err-require_member-clause-outright g c = λ n h.
    let p = err_from_is_err_and c.from_residual.result c.from_residual.ensures.1 in
    rw (p.1, p.2) (c.in_err-require_member.ensures.missing.0 ∙ not_there c.args.self.now c.args.member n c.in_err-require_member.ensures.missing.1 h)

pub returns-in_err-reserve-clause-outright : goal.returns-in_err-reserve-clause-outright
returns-in_err-reserve-clause-outright g c = λ n h. absurd (is_there c.args.self.now c.args.member n c.in_ok-require_member.ensures.there h)

pub returns-in_default-clause-outright : goal.returns-in_default-clause-outright
returns-in_default-clause-outright g c = λ n h. absurd (is_there c.args.self.now c.args.member n c.in_ok-require_member.ensures.there h)

pub returns-in_err-bytes-clause-outright : goal.returns-in_err-bytes-clause-outright
returns-in_err-bytes-clause-outright g c = λ n h. absurd (is_there c.args.self.now c.args.member n c.in_ok-require_member.ensures.there h)

pub returns-clause-outright : goal.returns-clause-outright
returns-clause-outright g c = λ n h. absurd (is_there c.args.self.now c.args.member n c.in_ok-require_member.ensures.there h)
