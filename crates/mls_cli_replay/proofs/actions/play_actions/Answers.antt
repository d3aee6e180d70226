use Rattle.std.proofs.Common.{◌≡◌, ◌∙◌, ◌&&◌, length, arith, refl}
use Rattle.mls_cli_replay.proofs.Playing.{both_else, both_then, on_err, played_end, played_nothing, played_part, played_step}
use Rattle.mls_cli_replay.proofs.Reporting.{reported_all, reported_next, reported_nothing, reports_part}
use Rattle.mls_cli_replay.proofs.Stopping.{reached_next, reached_nothing, stops}
use Rattle.mls_cli_replay.proofs.actions.play_actions.Goals as goal
use Rattle.mls_cli_replay.proofs.actions.play_actions.Goals.{then-all_met, else-all_met}

pub returns-in_err-met-clause-part : goal.returns-in_err-met-clause-part
returns-in_err-met-clause-part g c =
    on_err c.from_residual.result
    (played_part g.S.Suite.crypto c.args.world.now c.args.recorded.now _ _ _ c.loop-action.action c.loop-action.world c.loop-action.all_met c.index-recorded-action.result
    c.loop-action-test.true c.index-recorded-action.is c.loop-action.invariant.played c.in_err-met.ensures.part)

pub returns-in_err-met-clause-cut : goal.returns-in_err-met-clause-cut
returns-in_err-met-clause-cut g c =
    on_err c.from_residual.result
    (stops g.P.Progress.reports g.S.Suite.crypto c.args.world.now c.args.recorded.now _ _ _ c.args.progress.now c.loop-action.progress
    c.loop-action.action c.loop-action.world c.play_action.new.world c.index-recorded-action.result
    c.loop-action-test.true c.index-recorded-action.is c.loop-action.invariant.reached c.loop-action.invariant.reported.first c.in_err-met.ensures.part c.in_err-met.ensures.stopped)

pub returns-in_err-met-clause-reports : goal.returns-in_err-met-clause-reports
returns-in_err-met-clause-reports g c =
    reports_part g.P.Progress.reports (length c.args.recorded.now) c.loop-action.action _ _ c.from_residual.result c.from_residual.ensures.0 c.loop-action.invariant.reported

pub loop-action-init : goal.loop-action-init
loop-action-init g c = record {
  kept = refl;
  played = played_nothing g.S.Suite.crypto c.args.world.now c.args.recorded.now (g.O.Output.contents c.args.out.now);
  reported = reported_nothing g.P.Progress.reports (length c.args.recorded.now) c.args.progress.now;
  reached = reached_nothing g.S.Suite.crypto c.args.world.now c.args.recorded.now (g.O.Output.contents c.args.out.now);
}

pub loop-action-preserved : goal.loop-action-preserved
loop-action-preserved g c =
    let both : c.if-all_met.all_met ≡ (c.loop-action.all_met && c.in_ok-met.met) = elim c.if-all_met.branch [
      | then-all_met w ↦ both_then c.if-all_met.all_met c.loop-action.all_met c.in_ok-met.met (cc) (cc)
      | else-all_met w ↦ both_else c.if-all_met.all_met c.loop-action.all_met c.in_ok-met.met (cc) (cc)
    ] in
    record {
      kept = c.in_ok-met.ensures.fault ∙ c.loop-action.invariant.kept;
      played = played_step g.S.Suite.crypto c.args.world.now c.args.recorded.now _ _ _ c.loop-action.action c.loop-action.world c.play_action.new.world c.loop-action.all_met c.in_ok-met.met c.if-all_met.all_met
          c.index-recorded-action.result c.loop-action-test.true c.index-recorded-action.is c.loop-action.invariant.played c.in_ok-met.ensures.whole c.in_ok-met.ensures.world c.in_ok-met.ensures.met both;
      reported = reported_next g.P.Progress.reports (length c.args.recorded.now) c.loop-action.action _ _ _ c.loop-action-test.true c.loop-action.invariant.reported c.report.ensures;
      reached = reached_next g.S.Suite.crypto c.args.world.now c.args.recorded.now _ _ _ c.loop-action.action c.loop-action.world c.play_action.new.world c.index-recorded-action.result
          c.loop-action-test.true c.index-recorded-action.is c.loop-action.invariant.reached c.in_ok-met.ensures.whole c.in_ok-met.ensures.world;
    }

pub returns-clause-world : goal.returns-clause-world
returns-clause-world g c =
    (played_end g.S.Suite.crypto c.args.world.now c.args.recorded.now _ _ c.loop-action.action c.loop-action.world c.loop-action.all_met (omega arith) c.loop-action.invariant.played).world

pub returns-clause-met : goal.returns-clause-met
returns-clause-met g c =
    (played_end g.S.Suite.crypto c.args.world.now c.args.recorded.now _ _ c.loop-action.action c.loop-action.world c.loop-action.all_met (omega arith) c.loop-action.invariant.played).meets

pub returns-clause-whole : goal.returns-clause-whole
returns-clause-whole g c =
    (played_end g.S.Suite.crypto c.args.world.now c.args.recorded.now _ _ c.loop-action.action c.loop-action.world c.loop-action.all_met (omega arith) c.loop-action.invariant.played).grown

pub returns-clause-reports : goal.returns-clause-reports
returns-clause-reports g c =
    reported_all g.P.Progress.reports (length c.args.recorded.now) c.loop-action.action _ _ (omega arith) c.loop-action.invariant.reported
