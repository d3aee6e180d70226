use Rattle.mls_treekem.proofs.Levels.{on_ok_by}
use Rattle.mls_treekem.proofs.KeysAtHeights.{no_more, one_more}
use Rattle.mls_treekem.proofs.make.+push_none.Goals as goal

pub returns-then-count-eq0 : goal.returns-then-count-eq0
returns-then-count-eq0 t c = no_more c.args.above.now.items c.args.count c.if-count-eq0.true

pub returns : goal.returns
returns t c = on_ok_by _ _ _ _ (one_more c.args.above.now.items _ c.args.count c.if-count-eq0.false c.in_ok-push.ensures.items) c.push_none.ensures
