use Rattle.mls_tree_view.proofs.Walks.{begun, step_on, all_passed}
use Rattle.mls_tree_view.proofs.long_list.pass_all.Goals as goal

pub loop-place-init : goal.loop-place-init
loop-place-init c = λ cells items. begun cells c.walk-walk.result c.nothing-passed.result c.nothing-passed.ensures items

pub loop-place-preserved : goal.loop-place-preserved
loop-place-preserved c = λ cells items.
    step_on cells c.loop-place.walk c.next.new.self c.in-Some.place c.next.result c.loop-place.passed c.pass-passed.result c.kind_in.result
    (c.loop-place.invariant cells items) c.next.ensures.step c.in-Some.is c.kind_in.ensures c.pass-passed.ensures

pub returns : goal.returns
returns c = λ cells spells.
    all_passed cells c.loop-place.walk c.next.new.self c.next.result c.loop-place.passed
    (c.loop-place.invariant cells (c.walk-walk.ensures cells spells)) c.next.ensures.step c.in_default.is
