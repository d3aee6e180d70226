use Rattle.std.proofs.Common.{◌+◌, drop, sym, ap, ◌∙◌}
use Rattle.std.proofs.lemmas.Result.{err_from_is_err_and}
use Rattle.mls_model.specs.Proposals.{full_checks}
use Rattle.mls_public_group.specs.Faults.{number_of}
use Rattle.mls_public_group.proofs.Rest.{here, over}
use Rattle.mls_public_group.proofs.Folding.{full_more, full_fail, full_end}
use Rattle.mls_public_group.proofs.group.PublicGroup.require_full.Goals as goal

pub returns-in_err-require_used : goal.returns-in_err-require_used
returns-in_err-require_used g c =
    let p = err_from_is_err_and c.from_residual.result c.from_residual.ensures.1 in
    let check = full_checks g.S.Suite.crypto c.args.self.now in
    let u = c.one-item.result in
    let k = c.loop-one.one-index in
    rw (p.1, p.2) (λ other. sym c.loop-one.invariant ∙ ap check (here c.args.used.now k u c.loop-one-test.true c.one-item.is)
    ∙ full_fail g.S.Suite.crypto c.args.self.now u (drop (k + 1) c.args.used.now) (number_of c.in_err-require_used.field-0.0) (c.in_err-require_used.ensures other))

pub loop-one-preserved : goal.loop-one-preserved
loop-one-preserved g c =
    let check = full_checks g.S.Suite.crypto c.args.self.now in
    let u = c.one-item.result in
    let k = c.loop-one.one-index in
    sym (ap check (here c.args.used.now k u c.loop-one-test.true c.one-item.is) ∙ full_more g.S.Suite.crypto c.args.self.now u (drop (k + 1) c.args.used.now) c.in_ok-require_used.ensures) ∙ c.loop-one.invariant

pub returns : goal.returns
returns g c =
    let check = full_checks g.S.Suite.crypto c.args.self.now in
    sym c.loop-one.invariant ∙ ap check (over c.args.used.now c.loop-one.one-index c.loop-one-test.false) ∙ full_end g.S.Suite.crypto c.args.self.now
