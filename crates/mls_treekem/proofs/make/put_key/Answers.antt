use Rattle.std.proofs.Common.{length, ap}
use Rattle.mls_treekem.proofs.KeysAtHeights.{not_raised, now_raised}
use Rattle.mls_treekem.proofs.make.put_key.Goals as goal

pub returns-then-count-height : goal.returns-then-count-height
returns-then-count-height c =
    not_raised c.args.height c.args.key c.args.above.now.items _ (ap length c.as_slice-count.ensures.value) c.if-count-height.true

pub returns : goal.returns
returns c =
    now_raised c.args.height c.args.key c.args.above.now.items _ _ _ (ap length c.as_slice-count.ensures.value) c.if-count-height.false c.in_ok-push_none.ensures c.in_ok-push.ensures.items
