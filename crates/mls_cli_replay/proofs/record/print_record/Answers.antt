use Rattle.std.proofs.Common.{◌∙◌, ap, ap₂, List, ℕ, length}
use Rattle.serde_json.specs.View.{view}
use Rattle.mls_model.specs.World.{World}
use Rattle.mls_cli_record.specs.Record.{record_of}
use Rattle.mls_cli_replay.specs.Actions.{run_all}
use Rattle.mls_cli_replay.specs.RecordedReplies.{words_of_members}
use Rattle.mls_cli_replay.specs.Replay.{actions_of}
use Rattle.mls_cli_replay.proofs.Viewing.{kept_one, record_printed}
use Rattle.mls_cli_replay.proofs.Wording.{texts_from}
use Rattle.mls_cli_replay.proofs.Reporting.{reports_done, reports_front}
use Rattle.mls_cli_replay.proofs.AtFault.{stops_before, stops_behind}
use Rattle.mls_cli_replay.proofs.record.print_record.Goals as goal

pub returns-in_err-replies-clause-prints : goal.returns-in_err-replies-clause-prints
returns-in_err-replies-clause-prints g c = kept_one _ c.from_residual.result _ c.from_residual.ensures.0

pub returns-in_err-lines-clause-prints : goal.returns-in_err-lines-clause-prints
returns-in_err-lines-clause-prints g c = kept_one _ c.from_residual-in_err-lines.result _ c.from_residual-in_err-lines.ensures.0

pub returns-clause-prints : goal.returns-clause-prints
returns-clause-prints g c =
    let rs = c.args.recorded.now in
    let crypto = g.S.Suite.crypto in
    let world = c.in_ok-replies.ensures.world ∙ ap (λ (w : World). run_all crypto w (actions_of rs)) c.new-world.ensures in
    let replies = c.in_ok-replies.ensures.texts ∙ ap (λ (w : World). texts_from crypto w rs) c.new-world.ensures in
    let lines = c.in_ok-lines.ensures ∙ ap (λ (w : World). words_of_members w.seats) world in
    record_printed crypto (view c.args.value) _ rs c.record_page-page.result _ _ c.print_made_page.result
    (ap₂ (λ (rs ls : List (List ℕ)). record_of rs ls (view c.args.value)) replies lines)
    (rw (c.as_slice.ensures.value, c.as_slice-2.ensures.value) at c.record_page-page.ensures) c.print_made_page.ensures.prints

pub returns-in_err-replies-clause-reports : goal.returns-in_err-replies-clause-reports
returns-in_err-replies-clause-reports g c =
    reports_front g.P.Progress.reports (length c.args.recorded.now) _ _ c.from_residual.result c.from_residual.ensures.0 c.in_err-replies.ensures.reports

pub returns-in_err-lines-clause-reports : goal.returns-in_err-lines-clause-reports
returns-in_err-lines-clause-reports g c = reports_done g.P.Progress.reports (length c.args.recorded.now) _ _ c.from_residual-in_err-lines.result c.in_ok-replies.ensures.reports

pub returns-clause-reports : goal.returns-clause-reports
returns-clause-reports g c = reports_done g.P.Progress.reports (length c.args.recorded.now) _ _ c.print_made_page.result c.in_ok-replies.ensures.reports

pub returns-in_err-replies-clause-cut : goal.returns-in_err-replies-clause-cut
returns-in_err-replies-clause-cut g c = stops_before g.P.Progress.reports (length c.args.recorded.now) _ _ _ c.from_residual.result c.from_residual.ensures.1

pub returns-in_err-lines-clause-cut : goal.returns-in_err-lines-clause-cut
returns-in_err-lines-clause-cut g c = stops_behind g.P.Progress.reports (length c.args.recorded.now) _ _ _ _ c.from_residual-in_err-lines.result c.in_ok-replies.ensures.reports

pub returns-clause-cut : goal.returns-clause-cut
returns-clause-cut g c = stops_behind g.P.Progress.reports (length c.args.recorded.now) _ _ _ _ c.print_made_page.result c.in_ok-replies.ensures.reports
