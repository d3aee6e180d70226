use Rattle.std.proofs.Common.{◌∙◌}
use Rattle.std.proofs.lemmas.Result.{err_from_is_err_and}
use Rattle.mls_tree.proofs.RefusalLaws.{not_refused}
use Rattle.mls_model.specs.World.{package_of}
use Rattle.mls_world_plain.proofs.EarlyChecks.{add_nobody, add_refused}
use Rattle.mls_world_plain.proofs.world.PlainWorld.propose_add.Goals as goal

pub returns-in_err-require_member-clause-outright : goal.returns-in_err-require_member-clause-outright
returns-in_err-require_member-clause-outright g c = λ n h.
    let p = err_from_is_err_and c.from_residual.result c.from_residual.ensures.1 in
    rw (p.1, p.2) (c.in_err-require_member.ensures.missing.0 ∙ add_nobody c.args.self.now c.args.member c.args.key_package.now n c.in_err-require_member.ensures.missing.1 h)

pub returns-in_err-offered-clause-outright : goal.returns-in_err-offered-clause-outright
returns-in_err-offered-clause-outright g c = λ n h.
    let p = err_from_is_err_and c.from_residual-in_err-offered.result c.from_residual-in_err-offered.ensures.1 in
    rw (p.1, p.2) (c.in_err-offered.ensures.outright n (add_refused c.args.self.now c.args.member c.args.key_package.now n c.in_ok-require_member.ensures.there h))

pub returns-in-Err-clause-outright : goal.returns-in-Err-clause-outright
returns-in-Err-clause-outright g c = λ n h. absurd (not_refused (package_of c.args.self.now c.args.key_package.now) _ c.in_ok-offered.ensures.answer n (add_refused c.args.self.now c.args.member c.args.key_package.now n c.in_ok-require_member.ensures.there h))

pub returns-in_default-get_mut-clause-outright : goal.returns-in_default-get_mut-clause-outright
returns-in_default-get_mut-clause-outright g c = λ n h. absurd (not_refused (package_of c.args.self.now c.args.key_package.now) _ c.in_ok-offered.ensures.answer n (add_refused c.args.self.now c.args.member c.args.key_package.now n c.in_ok-require_member.ensures.there h))

pub returns-in_err-bytes-clause-outright : goal.returns-in_err-bytes-clause-outright
returns-in_err-bytes-clause-outright g c = λ n h. absurd (not_refused (package_of c.args.self.now c.args.key_package.now) _ c.in_ok-offered.ensures.answer n (add_refused c.args.self.now c.args.member c.args.key_package.now n c.in_ok-require_member.ensures.there h))

pub returns-clause-outright : goal.returns-clause-outright
returns-clause-outright g c = λ n h. absurd (not_refused (package_of c.args.self.now c.args.key_package.now) _ c.in_ok-offered.ensures.answer n (add_refused c.args.self.now c.args.member c.args.key_package.now n c.in_ok-require_member.ensures.there h))
