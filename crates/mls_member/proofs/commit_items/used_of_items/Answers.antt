use Rattle.std.proofs.Common.{sym, subst, List, drop, ◌+◌}
use Rattle.mls_model.specs.PublicState.{Used}
use Rattle.mls_member.proofs.UsedItems.{AreTaken, taken_first, taken_step, taken_stops, taken_end, left_short}
use Rattle.mls_member.proofs.commit_items.used_of_items.Goals as goal

pub loop-item-init : goal.loop-item-init
loop-item-init c =
    subst (λ (us : List Used). AreTaken c.args.kept.now c.args.committer c.args.items.now c.args.items.now us) (sym c.new-used.ensures.items)
    (taken_first c.args.kept.now c.args.committer c.args.items.now c.requires)

pub resolve_item-requires : goal.resolve_item-requires
resolve_item-requires c = left_short c.args.kept.now c.args.committer c.args.items.now c.loop-item.item-index c.item-item.result c.loop-item.used.items c.loop-item-test.true c.item-item.is c.loop-item.invariant

pub returns-in-Err-clause-answer : goal.returns-in-Err-clause-answer
returns-in-Err-clause-answer c = λ h. taken_stops c.args.kept.now c.args.committer c.args.items.now c.loop-item.item-index c.item-item.result c.loop-item.used.items _ c.loop-item-test.true c.item-item.is c.loop-item.invariant (c.in-Err.ensures.answer h)

pub loop-item-preserved : goal.loop-item-preserved
loop-item-preserved c =
    subst (λ (us : List Used). AreTaken c.args.kept.now c.args.committer c.args.items.now (drop (c.loop-item.item-index + 1) c.args.items.now) us) (sym c.in_ok-push-in-Ok.ensures.items)
    (taken_step c.args.kept.now c.args.committer c.args.items.now c.loop-item.item-index c.item-item.result c.loop-item.used.items c.in-Ok.one c.loop-item-test.true c.item-item.is c.loop-item.invariant c.in-Ok.ensures.answer c.in-Ok.ensures.short)

pub returns-clause-answer : goal.returns-clause-answer
returns-clause-answer c = taken_end c.args.kept.now c.args.committer c.args.items.now c.loop-item.item-index c.loop-item.used.items c.loop-item-test.false c.loop-item.invariant

pub returns-clause-short : goal.returns-clause-short
returns-clause-short c = c.loop-item.invariant.short
