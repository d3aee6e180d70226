use Rattle.std.proofs.Common.{List, arith, length, map, subst, sym}
use Rattle.mls_cli_replay.specs.Replay.{entry_of}
use Rattle.mls_cli_replay.specs.declared.line.ReplayLine.{ReplayLine}
use Rattle.mls_cli_replay.proofs.Playing.{on_err}
use Rattle.mls_cli_replay.proofs.Quietly.{Collected, collected_end, collected_nothing, collected_step}
use Rattle.mls_cli_replay.proofs.Reporting.{reported_all, reported_next, reported_nothing, reports_part}
use Rattle.mls_cli_replay.proofs.Stopping.{all_of_next, before_first, before_next, part_of_next}
use Rattle.mls_cli_replay.proofs.quiet.collect_unmet.Goals as goal

pub loop-action-init : goal.loop-action-init
loop-action-init g c = record {
  collected = subst (λ (ls : List ReplayLine). Collected g.S.Suite.crypto c.args.world.now c.args.recorded.now 0 c.args.world.now (map entry_of ls) c.args.recorded.now) (sym c.new-lines.ensures.items)
      (collected_nothing g.S.Suite.crypto c.args.world.now c.args.recorded.now);
  reported = reported_nothing g.P.Progress.reports (length c.args.recorded.now) c.args.progress.now;
  before = before_first g.S.Suite.crypto c.args.world.now c.args.recorded.now;
}

pub returns-in_err-outcome-clause-reports : goal.returns-in_err-outcome-clause-reports
returns-in_err-outcome-clause-reports g c =
    reports_part g.P.Progress.reports (length c.args.recorded.now) c.loop-action.action _ _ c.from_residual.result c.from_residual.ensures.0 c.loop-action.invariant.reported

pub returns-in_err-outcome-clause-cut : goal.returns-in_err-outcome-clause-cut
returns-in_err-outcome-clause-cut g c =
    on_err c.from_residual.result
    (part_of_next g.P.Progress.reports g.S.Suite.crypto c.args.world.now c.args.recorded.now c.args.progress.now c.loop-action.progress
    c.loop-action.action c.loop-action.world c.do_action.new.world c.index-recorded-action.result c.loop-action-test.true c.index-recorded-action.is
    c.loop-action.invariant.before c.loop-action.invariant.reported.first c.in_err-outcome.ensures.part)

pub returns-in_err-push_unmet-clause-cut : goal.returns-in_err-push_unmet-clause-cut
returns-in_err-push_unmet-clause-cut g c =
    on_err c.from_residual-in_err-push_unmet.result
    (all_of_next g.P.Progress.reports g.S.Suite.crypto c.args.world.now c.args.recorded.now c.args.progress.now c.loop-action.progress
    c.loop-action.action c.loop-action.world c.do_action.new.world c.index-recorded-action.result c.loop-action-test.true c.index-recorded-action.is
    c.loop-action.invariant.before c.loop-action.invariant.reported.first c.in_ok-outcome.ensures.world)

pub returns-in_err-push_unmet-clause-reports : goal.returns-in_err-push_unmet-clause-reports
returns-in_err-push_unmet-clause-reports g c =
    reports_part g.P.Progress.reports (length c.args.recorded.now) c.loop-action.action _ _ c.from_residual-in_err-push_unmet.result c.from_residual-in_err-push_unmet.ensures.0 c.loop-action.invariant.reported

pub loop-action-preserved : goal.loop-action-preserved
loop-action-preserved g c = record {
  collected = collected_step g.S.Suite.crypto c.args.world.now c.args.recorded.now c.loop-action.action c.loop-action.world c.do_action.new.world (map entry_of c.loop-action.lines.items)
      (map entry_of c.push_unmet.new.lines.items) c.in_ok-outcome.outcome _ c.index-recorded-action.result c.loop-action-test.true c.index-recorded-action.is c.loop-action.invariant.collected
      c.in_ok-outcome.ensures.world c.in_ok-outcome.ensures.outcome c.as_deref.ensures.value c.in_ok-push_unmet.ensures;
  reported = reported_next g.P.Progress.reports (length c.args.recorded.now) c.loop-action.action _ _ _ c.loop-action-test.true c.loop-action.invariant.reported c.report.ensures;
  before = before_next g.S.Suite.crypto c.args.world.now c.args.recorded.now c.loop-action.action c.loop-action.world c.do_action.new.world c.index-recorded-action.result
      c.loop-action-test.true c.index-recorded-action.is c.loop-action.invariant.before c.in_ok-outcome.ensures.world;
}

pub returns-clause-world : goal.returns-clause-world
returns-clause-world g c =
    (collected_end g.S.Suite.crypto c.args.world.now c.args.recorded.now c.loop-action.action c.loop-action.world (map entry_of c.loop-action.lines.items) (omega arith) c.loop-action.invariant.collected).world

pub returns-clause-lines : goal.returns-clause-lines
returns-clause-lines g c =
    (collected_end g.S.Suite.crypto c.args.world.now c.args.recorded.now c.loop-action.action c.loop-action.world (map entry_of c.loop-action.lines.items) (omega arith) c.loop-action.invariant.collected).said

pub returns-clause-reports : goal.returns-clause-reports
returns-clause-reports g c =
    reported_all g.P.Progress.reports (length c.args.recorded.now) c.loop-action.action _ _ (omega arith) c.loop-action.invariant.reported
