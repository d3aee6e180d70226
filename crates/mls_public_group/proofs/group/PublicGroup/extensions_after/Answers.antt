use Rattle.std.proofs.Common.{sym, ap, ◌∙◌}
use Rattle.mls_model.specs.PublicState.{PublicState}
use Rattle.mls_public_group.proofs.Folding.{list_found, list_passed, extended_over}
use Rattle.mls_public_group.proofs.group.PublicGroup.extensions_after.Goals as goal

pub returns-in-GroupContextExtensions : goal.returns-in-GroupContextExtensions
returns-in-GroupContextExtensions c =
    sym (list_found c.args.self.now.context.extensions c.args.used.now c.loop-one.one-index c.one-item.result _ c.loop-one-test.true c.one-item.is c.one.view_is _ c.in-GroupContextExtensions.is)
    ∙ c.loop-one.invariant

pub loop-one-preserved : goal.loop-one-preserved
loop-one-preserved c =
    sym (list_passed c.args.self.now.context.extensions c.args.used.now c.loop-one.one-index c.one-item.result _ c.loop-one-test.true c.one-item.is c.one.view_is c.in_default.not-GroupContextExtensions)
    ∙ c.loop-one.invariant

pub returns : goal.returns
returns c =
    ap (λ (p : PublicState). p.context.extensions) c.self.view_is
    ∙ sym (extended_over c.args.self.now.context.extensions c.args.used.now c.loop-one.one-index c.loop-one-test.false) ∙ c.loop-one.invariant
