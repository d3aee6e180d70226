use Rattle.std.proofs.Common.{sym, subst, List, drop, ◌+◌, ◌^◌}
use Rattle.mls_public_group.proofs.ShortLaws.{extended_below, used_below}
use Rattle.mls_model.specs.PublicState.{Used}
use Rattle.mls_member.proofs.Uses.{AreUsed, used_wider, used_step, used_stops, used_end}
use Rattle.mls_member.proofs.used_proposals.find_proposals.Goals as goal

pub returns-in-Err-clause-answer : goal.returns-in-Err-clause-answer
returns-in-Err-clause-answer c = λ h. used_stops c.args.kept.now c.args.committer c.args.list.now c.loop-listed.listed-index c.listed-item.result c.loop-listed.used.items _ c.loop-listed-test.true c.listed-item.is c.loop-listed.invariant (c.in-Err.ensures.answer h)

pub loop-listed-preserved : goal.loop-listed-preserved
loop-listed-preserved c =
    subst (λ (us : List Used). AreUsed c.args.kept.now c.args.committer c.args.list.now (drop (c.loop-listed.listed-index + 1) c.args.list.now) us) (sym c.in_ok-push-in-Ok.ensures.items)
    (used_step c.args.kept.now c.args.committer c.args.list.now c.loop-listed.listed-index c.listed-item.result c.loop-listed.used.items c.in-Ok.one c.loop-listed-test.true c.listed-item.is c.loop-listed.invariant c.in-Ok.ensures.answer c.in-Ok.ensures.below)

pub returns-clause-answer : goal.returns-clause-answer
returns-clause-answer c = used_end c.args.kept.now c.args.committer c.args.list.now c.loop-listed.listed-index c.loop-listed.used.items c.loop-listed-test.false c.loop-listed.invariant

pub returns-clause-below : goal.returns-clause-below
returns-clause-below c = used_below (2 ^ 27) c.loop-listed.used.items c.loop-listed.invariant.below

pub returns-clause-extensions : goal.returns-clause-extensions
returns-clause-extensions c = λ old short. extended_below (2 ^ 27) old c.loop-listed.used.items short c.loop-listed.invariant.below

pub returns-clause-wide : goal.returns-clause-wide
returns-clause-wide c = used_wider c.loop-listed.used.items c.loop-listed.invariant.below
