use Rattle.std.proofs.Common.{◌+◌, List, drop, sym, subst}
use Rattle.mls_model.specs.Member.{KeptProposal}
use Rattle.mls_member.proofs.LoadedKept.{AreLoaded, loaded_step, loaded_stops, loaded_end}
use Rattle.mls_member.proofs.load.load_all_kept.Goals as goal

pub returns-in-Err : goal.returns-in-Err
returns-in-Err c = λ h. loaded_stops c.args.saved.now c.loop-one.one-index c.one-item.result c.loop-one.kept.items _ c.loop-one-test.true c.one-item.is c.loop-one.invariant (c.in-Err.ensures h)

pub loop-one-preserved : goal.loop-one-preserved
loop-one-preserved c =
    subst (λ (ks : List KeptProposal). AreLoaded c.args.saved.now (drop (c.loop-one.one-index + 1) c.args.saved.now) ks) (sym c.in_ok-push-in-Ok.ensures.items)
    (loaded_step c.args.saved.now c.loop-one.one-index c.one-item.result c.loop-one.kept.items c.in-Ok.proposal c.loop-one-test.true c.one-item.is c.loop-one.invariant c.in-Ok.ensures)

pub returns : goal.returns
returns c = loaded_end c.args.saved.now c.loop-one.one-index c.loop-one.kept.items c.loop-one-test.false c.loop-one.invariant
