use Rattle.std.proofs.Common.{arith}
use Rattle.mls_public_group.proofs.Folding.{lists_more, lists_over}
use Rattle.mls_public_group.proofs.extensions.count_lists.Goals as goal

pub loop-one-preserved : goal.loop-one-preserved
loop-one-preserved c =
    let more = lists_more c.args.used.now c.loop-one.one-index c.one-item.result c.loop-one-test.true c.one-item.is in
    (omega (arith, more, c.lists_in-count.ensures.counted, c.loop-one.invariant.0), omega (arith, c.lists_in-count.ensures.few, c.loop-one.invariant.1))

pub returns : goal.returns
returns c = omega (arith, lists_over c.args.used.now c.loop-one.one-index c.loop-one-test.false, c.loop-one.invariant.0)
