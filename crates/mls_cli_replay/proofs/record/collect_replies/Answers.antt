use Rattle.std.proofs.Common.{List, arith, length, subst, sym}
use Rattle.std.specs.Global.{Global}
use Rattle.std.specs.declared.string.String.{String}
use Rattle.mls_cli_replay.proofs.Playing.{on_err}
use Rattle.mls_cli_replay.proofs.Reporting.{reported_all, reported_next, reported_nothing, reports_part}
use Rattle.mls_cli_replay.proofs.Stopping.{all_of_next, before_first, before_next, part_of_next}
use Rattle.mls_cli_replay.proofs.Wording.{Replied, replied_end, replied_nothing, replied_step}
use Rattle.mls_cli_replay.proofs.record.collect_replies.Goals as goal

pub loop-action-init : goal.loop-action-init
loop-action-init g c = record {
  replied = subst (λ (ts : List (String Global)). Replied g.S.Suite.crypto c.args.world.now c.args.recorded.now c.args.world.now ts c.args.recorded.now) (sym c.new-texts.ensures.items)
      (replied_nothing g.S.Suite.crypto c.args.world.now c.args.recorded.now);
  reported = reported_nothing g.P.Progress.reports (length c.args.recorded.now) c.args.progress.now;
  before = before_first g.S.Suite.crypto c.args.world.now c.args.recorded.now;
}

pub returns-in_err-outcome-clause-reports : goal.returns-in_err-outcome-clause-reports
returns-in_err-outcome-clause-reports g c =
    reports_part g.P.Progress.reports (length c.args.recorded.now) c.loop-action.action _ _ c.from_residual.result c.from_residual.ensures.0 c.loop-action.invariant.reported

pub returns-in_err-outcome-clause-cut : goal.returns-in_err-outcome-clause-cut
returns-in_err-outcome-clause-cut g c =
    on_err c.from_residual.result
    (part_of_next g.P.Progress.reports g.S.Suite.crypto c.args.world.now c.args.recorded.now c.args.progress.now c.loop-action.progress
    c.loop-action.action c.loop-action.world c.do_action.new.world c.index-recorded-action.result c.loop-action-test.true c.index-recorded-action.is
    c.loop-action.invariant.before c.loop-action.invariant.reported.first c.in_err-outcome.ensures.part)

pub returns-in_err-outcome_text-clause-cut : goal.returns-in_err-outcome_text-clause-cut
returns-in_err-outcome_text-clause-cut g c =
    on_err c.from_residual-in_err-outcome_text.result
    (all_of_next g.P.Progress.reports g.S.Suite.crypto c.args.world.now c.args.recorded.now c.args.progress.now c.loop-action.progress
    c.loop-action.action c.loop-action.world c.do_action.new.world c.index-recorded-action.result c.loop-action-test.true c.index-recorded-action.is
    c.loop-action.invariant.before c.loop-action.invariant.reported.first c.in_ok-outcome.ensures.world)

pub returns-in_err-push-clause-cut : goal.returns-in_err-push-clause-cut
returns-in_err-push-clause-cut g c =
    on_err c.from_residual-in_err-push.result
    (all_of_next g.P.Progress.reports g.S.Suite.crypto c.args.world.now c.args.recorded.now c.args.progress.now c.loop-action.progress
    c.loop-action.action c.loop-action.world c.do_action.new.world c.index-recorded-action.result c.loop-action-test.true c.index-recorded-action.is
    c.loop-action.invariant.before c.loop-action.invariant.reported.first c.in_ok-outcome.ensures.world)

pub returns-in_err-outcome_text-clause-reports : goal.returns-in_err-outcome_text-clause-reports
returns-in_err-outcome_text-clause-reports g c =
    reports_part g.P.Progress.reports (length c.args.recorded.now) c.loop-action.action _ _ c.from_residual-in_err-outcome_text.result c.from_residual-in_err-outcome_text.ensures.0 c.loop-action.invariant.reported

pub returns-in_err-push-clause-reports : goal.returns-in_err-push-clause-reports
returns-in_err-push-clause-reports g c =
    reports_part g.P.Progress.reports (length c.args.recorded.now) c.loop-action.action _ _ c.from_residual-in_err-push.result c.from_residual-in_err-push.ensures.0 c.loop-action.invariant.reported

pub loop-action-preserved : goal.loop-action-preserved
loop-action-preserved g c = record {
  replied = replied_step g.S.Suite.crypto c.args.world.now c.args.recorded.now c.loop-action.action c.loop-action.world c.do_action.new.world c.loop-action.texts.items c.push.new.self.items
      c.in_ok-outcome_text.field-0 c.in_ok-outcome.outcome c.index-recorded-action.result c.loop-action-test.true c.index-recorded-action.is c.loop-action.invariant.replied
      c.in_ok-outcome.ensures.world c.in_ok-outcome.ensures.outcome c.in_ok-outcome_text.ensures c.in_ok-push.ensures.items;
  reported = reported_next g.P.Progress.reports (length c.args.recorded.now) c.loop-action.action _ _ _ c.loop-action-test.true c.loop-action.invariant.reported c.report.ensures;
  before = before_next g.S.Suite.crypto c.args.world.now c.args.recorded.now c.loop-action.action c.loop-action.world c.do_action.new.world c.index-recorded-action.result
      c.loop-action-test.true c.index-recorded-action.is c.loop-action.invariant.before c.in_ok-outcome.ensures.world;
}

pub returns-clause-world : goal.returns-clause-world
returns-clause-world g c =
    (replied_end g.S.Suite.crypto c.args.world.now c.args.recorded.now c.loop-action.action c.loop-action.world c.loop-action.texts.items (omega arith) c.loop-action.invariant.replied).world

pub returns-clause-texts : goal.returns-clause-texts
returns-clause-texts g c =
    (replied_end g.S.Suite.crypto c.args.world.now c.args.recorded.now c.loop-action.action c.loop-action.world c.loop-action.texts.items (omega arith) c.loop-action.invariant.replied).said

pub returns-clause-reports : goal.returns-clause-reports
returns-clause-reports g c =
    reported_all g.P.Progress.reports (length c.args.recorded.now) c.loop-action.action _ _ (omega arith) c.loop-action.invariant.reported
