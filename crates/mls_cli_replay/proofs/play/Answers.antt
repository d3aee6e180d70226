use Rattle.std.proofs.Common.{refl, length}
use Rattle.mls_cli_text.specs.Page.{printout}
use Rattle.mls_cli_text.proofs.Pages.{cut_ending, cut_lines}
use Rattle.mls_cli_replay.specs.Actions.{run_all}
use Rattle.mls_cli_replay.specs.Replay.{actions_of, closing_text, entry_text, lines_of, page_of_run}
use Rattle.mls_cli_replay.proofs.Closing.{closing, text_from}
use Rattle.mls_cli_replay.proofs.Ending.{texts_lent}
use Rattle.mls_cli_replay.proofs.Playing.{said}
use Rattle.mls_cli_replay.proofs.Reporting.{reports_done, reports_front}
use Rattle.mls_cli_replay.proofs.AtFault.{stops_along, stops_ending}
use Rattle.mls_cli_replay.proofs.play.Goals as goal

pub returns-in_err-met-clause-prints : goal.returns-in_err-met-clause-prints
returns-in_err-met-clause-prints g c =
    let items = c.args.recorded.now.actions.items in
    let after = run_all g.S.Suite.crypto c.new-world.result (actions_of items) in
    cut_lines c.from_residual.result _ _ (said g.S.Suite.crypto c.new-world.result 0 items) (printout entry_text (page_of_run g.S.Suite.crypto c.args.recorded.now))
    (closing_text after.seats (lines_of c.args.recorded.now)) (text_from g.S.Suite.crypto items (lines_of c.args.recorded.now) c.new-world.result after c.new-world.ensures refl)
    c.from_residual.ensures.0 (rw c.as_slice.ensures.value at c.in_err-met.ensures.part)

pub returns-in_err-same-clause-prints : goal.returns-in_err-same-clause-prints
returns-in_err-same-clause-prints g c =
    let items = c.args.recorded.now.actions.items in
    let texts = texts_lent c.as_deref-texts.result c.args.recorded.now.final_lines c.as_deref-texts.ensures.value in
    cut_ending c.from_residual-in_err-same.result _ (g.O.Output.contents c.play_actions.new.out) _ (said g.S.Suite.crypto c.new-world.result 0 items)
    (printout entry_text (page_of_run g.S.Suite.crypto c.args.recorded.now)) (closing_text c.play_actions.new.world.seats (lines_of c.args.recorded.now))
    (text_from g.S.Suite.crypto items (lines_of c.args.recorded.now) c.new-world.result c.play_actions.new.world c.new-world.ensures (rw c.as_slice.ensures.value at c.in_ok-met.ensures.world))
    c.from_residual-in_err-same.ensures.0 (rw c.as_slice.ensures.value at c.in_ok-met.ensures.whole) (rw texts at c.in_err-same.ensures.part)

pub returns-clause-prints : goal.returns-clause-prints
returns-clause-prints g c =
    let items = c.args.recorded.now.actions.items in
    let texts = texts_lent c.as_deref-texts.result c.args.recorded.now.final_lines c.as_deref-texts.ensures.value in
    closing g.S.Suite.crypto items (lines_of c.args.recorded.now) _ (g.O.Output.contents c.play_actions.new.out) _ c.new-world.result c.play_actions.new.world c.in_ok-met.met c.in_ok-same.same c.status_of.result
    c.new-world.ensures (rw c.as_slice.ensures.value at c.in_ok-met.ensures.world) (rw c.as_slice.ensures.value at c.in_ok-met.ensures.met) (rw texts at c.in_ok-same.ensures.met) c.status_of.ensures.status
    (rw c.as_slice.ensures.value at c.in_ok-met.ensures.whole) (rw texts at c.in_ok-same.ensures.whole)

pub returns-in_err-met-clause-reports : goal.returns-in_err-met-clause-reports
returns-in_err-met-clause-reports g c =
    reports_front g.P.Progress.reports (length c.args.recorded.now.actions.items) _ _ c.from_residual.result c.from_residual.ensures.0 (rw c.as_slice.ensures.value at c.in_err-met.ensures.reports)

pub returns-in_err-same-clause-reports : goal.returns-in_err-same-clause-reports
returns-in_err-same-clause-reports g c = reports_done g.P.Progress.reports (length c.args.recorded.now.actions.items) _ _ c.from_residual-in_err-same.result (rw c.as_slice.ensures.value at c.in_ok-met.ensures.reports)

pub returns-clause-reports : goal.returns-clause-reports
returns-clause-reports g c = rw c.as_slice.ensures.value at c.in_ok-met.ensures.reports

pub returns-in_err-met-clause-cut : goal.returns-in_err-met-clause-cut
returns-in_err-met-clause-cut g c =
    stops_along g.P.Progress.reports g.S.Suite.crypto c.args.recorded.now.actions.items _ _ c.new-world.result c.play_actions.new.world _ _ c.from_residual.result c.new-world.ensures
    (rw c.as_slice.ensures.value at c.in_err-met.ensures.cut)

pub returns-in_err-same-clause-cut : goal.returns-in_err-same-clause-cut
returns-in_err-same-clause-cut g c =
    stops_ending g.P.Progress.reports g.S.Suite.crypto c.args.recorded.now.actions.items _ _ c.new-world.result _ (g.O.Output.contents c.play_actions.new.out) _ _ c.from_residual-in_err-same.result c.new-world.ensures
    (rw c.as_slice.ensures.value at c.in_ok-met.ensures.reports) (rw c.as_slice.ensures.value at c.in_ok-met.ensures.whole) c.in_err-same.ensures.part
