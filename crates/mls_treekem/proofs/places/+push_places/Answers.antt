use Rattle.mls_treekem.proofs.Levels.{on_ok_by}
use Rattle.mls_treekem.proofs.Place.{pushed_left, pushed_right, none_pushed}
use Rattle.mls_treekem.proofs.places.+push_places.Goals as goal

pub returns-then-height-eq0 : goal.returns-then-height-eq0
returns-then-height-eq0 t c = none_pushed c.args.height c.args.first c.args.i c.args.places.now.items c.if-height-eq0.true

pub returns-in_ok-push : goal.returns-in_ok-push
returns-in_ok-push t c =
    on_ok_by _ _ _ _ (pushed_left c.args.height c.args.first c.args.i c.if-height-eq0.false c.args.places.now.items _ c.side_of-leaves.ensures.value _ c.if-i-middle.true c.in_ok-push.ensures.items) c.push_places.ensures

pub returns-in_ok-push-2 : goal.returns-in_ok-push-2
returns-in_ok-push-2 t c =
    on_ok_by _ _ _ _ (pushed_right c.args.height c.args.first c.args.i c.if-height-eq0.false c.args.places.now.items _ c.side_of-leaves.ensures.value _ c.if-i-middle.false c.in_ok-push-2.ensures.items) c.push_places-else-i-middle.ensures
