use Rattle.std.proofs.Common.{◌≡◌, map, subst, sym, length}
use Rattle.std.specs.List.{flat_map}
use Rattle.std.proofs.KnownBytes.{Appends-trans}
use Rattle.std.specs.Io.KnownBytes.{Appends}
use Rattle.mls_cli_text.specs.Page.{printout}
use Rattle.mls_cli_text.proofs.Pages.{cut_ending, cut_lines}
use Rattle.mls_cli_replay.specs.Actions.{run_all}
use Rattle.mls_cli_replay.specs.Quiet.{quiet_page_of}
use Rattle.mls_cli_replay.specs.Replay.{actions_of, closing_text, entry_of, entry_text, lines_of}
use Rattle.mls_cli_replay.specs.declared.line.ReplayLine.{ReplayLine}
use Rattle.mls_cli_replay.proofs.Ending.{texts_lent}
use Rattle.mls_cli_replay.proofs.FoundMessages.{nothing_prints}
use Rattle.mls_cli_replay.proofs.Quietly.{quiet_from, quiet_status, quiet_text}
use Rattle.mls_cli_replay.proofs.Reporting.{reports_done, reports_front}
use Rattle.mls_cli_replay.proofs.AtFault.{stops_before, stops_behind}
use Rattle.mls_cli_replay.proofs.quiet.play_quietly.Goals as goal

pub returns-in_err-unmet-clause-prints : goal.returns-in_err-unmet-clause-prints
returns-in_err-unmet-clause-prints g c = nothing_prints c.from_residual.result _ _ c.from_residual.ensures.0

pub returns-in_err-print_lines-clause-prints : goal.returns-in_err-print_lines-clause-prints
returns-in_err-print_lines-clause-prints g c =
    let crypto = g.S.Suite.crypto in
    let items = c.args.recorded.now.actions.items in
    let ls = c.in_ok-unmet.unmet.items in
    let w = c.new-world.result in
    let v = c.collect_unmet.new.world in
    let is : v ≡ run_all crypto w (actions_of items) = rw c.as_slice.ensures.value at c.in_ok-unmet.ensures.world in
    let said : map entry_of ls ≡ quiet_from crypto w 0 items = rw c.as_slice.ensures.value at c.in_ok-unmet.ensures.lines in
    cut_lines c.from_residual-in_err-print_lines.result _ _ (flat_map (λ (l : ReplayLine). entry_text (entry_of l)) ls)
    (printout entry_text (quiet_page_of crypto c.args.recorded.now)) (closing_text v.seats (lines_of c.args.recorded.now))
    (quiet_text crypto items (lines_of c.args.recorded.now) w v ls c.new-world.ensures is said)
    c.from_residual-in_err-print_lines.ensures.0 (rw c.as_slice-lines.ensures.value at c.in_err-print_lines.ensures.part)

pub returns-in_err-same-clause-prints : goal.returns-in_err-same-clause-prints
returns-in_err-same-clause-prints g c =
    let crypto = g.S.Suite.crypto in
    let items = c.args.recorded.now.actions.items in
    let ls = c.in_ok-unmet.unmet.items in
    let w = c.new-world.result in
    let v = c.collect_unmet.new.world in
    let is : v ≡ run_all crypto w (actions_of items) = rw c.as_slice.ensures.value at c.in_ok-unmet.ensures.world in
    let said : map entry_of ls ≡ quiet_from crypto w 0 items = rw c.as_slice.ensures.value at c.in_ok-unmet.ensures.lines in
    let texts = texts_lent c.as_deref-texts.result c.args.recorded.now.final_lines c.as_deref-texts.ensures.value in
    cut_ending c.from_residual-in_err-same.result _ (g.O.Output.contents c.print_lines.new.out) _ (flat_map (λ (l : ReplayLine). entry_text (entry_of l)) ls)
    (printout entry_text (quiet_page_of crypto c.args.recorded.now)) (closing_text v.seats (lines_of c.args.recorded.now))
    (quiet_text crypto items (lines_of c.args.recorded.now) w v ls c.new-world.ensures is said)
    c.from_residual-in_err-same.ensures.0 (rw c.as_slice-lines.ensures.value at c.in_ok-print_lines.ensures.whole) (rw texts at c.in_err-same.ensures.part)

pub returns-clause-prints : goal.returns-clause-prints
returns-clause-prints g c =
    let crypto = g.S.Suite.crypto in
    let items = c.args.recorded.now.actions.items in
    let lines = lines_of c.args.recorded.now in
    let ls = c.in_ok-unmet.unmet.items in
    let w = c.new-world.result in
    let v = c.collect_unmet.new.world in
    let is : v ≡ run_all crypto w (actions_of items) = rw c.as_slice.ensures.value at c.in_ok-unmet.ensures.world in
    let said : map entry_of ls ≡ quiet_from crypto w 0 items = rw c.as_slice.ensures.value at c.in_ok-unmet.ensures.lines in
    let texts = texts_lent c.as_deref-texts.result c.args.recorded.now.final_lines c.as_deref-texts.ensures.value in (
      subst (Appends (g.O.Output.contents c.args.out.now) (g.O.Output.contents c.print_end.new.out)) (sym (quiet_text crypto items lines w v ls c.new-world.ensures is said))
          (Appends-trans _ (g.O.Output.contents c.print_lines.new.out) _ (flat_map (λ (l : ReplayLine). entry_text (entry_of l)) ls) (closing_text v.seats lines)
          (rw c.as_slice-lines.ensures.value at c.in_ok-print_lines.ensures.whole) (rw texts at c.in_ok-same.ensures.whole)),
      quiet_status crypto items lines w v ls c.is_empty.result c.in_ok-same.same c.status_of.result c.new-world.ensures is said
          (rw c.as_slice-lines.ensures.value at c.is_empty.ensures) (rw texts at c.in_ok-same.ensures.met) c.status_of.ensures.status,
    )

pub returns-in_err-unmet-clause-reports : goal.returns-in_err-unmet-clause-reports
returns-in_err-unmet-clause-reports g c =
    reports_front g.P.Progress.reports (length c.args.recorded.now.actions.items) _ _ c.from_residual.result c.from_residual.ensures.0 (rw c.as_slice.ensures.value at c.in_err-unmet.ensures.reports)

pub returns-in_err-print_lines-clause-reports : goal.returns-in_err-print_lines-clause-reports
returns-in_err-print_lines-clause-reports g c = reports_done g.P.Progress.reports (length c.args.recorded.now.actions.items) _ _ c.from_residual-in_err-print_lines.result (rw c.as_slice.ensures.value at c.in_ok-unmet.ensures.reports)

pub returns-in_err-same-clause-reports : goal.returns-in_err-same-clause-reports
returns-in_err-same-clause-reports g c = reports_done g.P.Progress.reports (length c.args.recorded.now.actions.items) _ _ c.from_residual-in_err-same.result (rw c.as_slice.ensures.value at c.in_ok-unmet.ensures.reports)

pub returns-clause-reports : goal.returns-clause-reports
returns-clause-reports g c = rw c.as_slice.ensures.value at c.in_ok-unmet.ensures.reports

pub returns-in_err-unmet-clause-cut : goal.returns-in_err-unmet-clause-cut
returns-in_err-unmet-clause-cut g c = stops_before g.P.Progress.reports (length c.args.recorded.now.actions.items) _ _ _ c.from_residual.result c.from_residual.ensures.1

pub returns-in_err-print_lines-clause-cut : goal.returns-in_err-print_lines-clause-cut
returns-in_err-print_lines-clause-cut g c =
    stops_behind g.P.Progress.reports (length c.args.recorded.now.actions.items) _ _ _ _ c.from_residual-in_err-print_lines.result (rw c.as_slice.ensures.value at c.in_ok-unmet.ensures.reports)

pub returns-in_err-same-clause-cut : goal.returns-in_err-same-clause-cut
returns-in_err-same-clause-cut g c =
    stops_behind g.P.Progress.reports (length c.args.recorded.now.actions.items) _ _ _ _ c.from_residual-in_err-same.result (rw c.as_slice.ensures.value at c.in_ok-unmet.ensures.reports)
