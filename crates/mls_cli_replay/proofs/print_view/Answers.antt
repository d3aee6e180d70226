use Rattle.mls_cli_text.specs.Page.{Printout}
use Rattle.mls_cli_replay.specs.Views.{IsViewOf}
use Rattle.mls_cli_replay.proofs.AtFault.{refusal_stops, run_stops}
use Rattle.mls_cli_replay.proofs.Reporting.{refusal_reported, run_reported}
use Rattle.mls_cli_replay.proofs.Viewing.{of_recording, prints_as, refusal_printed}
use Rattle.mls_cli_replay.proofs.print_view.Goals as goal

pub returns-in-Ok-clause-prints : goal.returns-in-Ok-clause-prints
returns-in-Ok-clause-prints g c =
    prints_as (IsViewOf g.S.Suite.crypto c.args.view c.args.file.now c.in-Ok.recorded) _ _ _ c.print_run.result
    (λ (p : Printout). of_recording (IsViewOf g.S.Suite.crypto c.args.view c.args.file.now) g.S.Suite.crypto c.args.file.now c.in-Ok.recorded p c.in-Ok.ensures)
    c.print_run.ensures.prints

pub returns-in-Err-clause-prints : goal.returns-in-Err-clause-prints
returns-in-Err-clause-prints g c =
    refusal_printed (IsViewOf g.S.Suite.crypto c.args.view c.args.file.now) g.S.Suite.crypto c.args.file.now c.in-Err.error _ _ c.print_error.result c.in-Err.ensures c.print_error.ensures.prints

pub returns-in-Ok-clause-reports : goal.returns-in-Ok-clause-reports
returns-in-Ok-clause-reports g c = run_reported g.P.Progress.reports g.S.Suite.crypto c.args.file.now c.in-Ok.recorded _ _ c.print_run.result c.in-Ok.ensures c.print_run.ensures.reports

pub returns-in-Err-clause-reports : goal.returns-in-Err-clause-reports
returns-in-Err-clause-reports g c =
    refusal_reported g.P.Progress.reports g.S.Suite.crypto c.args.file.now c.in-Err.error _ _ _ c.print_error.result c.in-Err.ensures c.print_error.ensures.prints

pub returns-in-Ok-clause-cut : goal.returns-in-Ok-clause-cut
returns-in-Ok-clause-cut g c = run_stops g.P.Progress.reports g.S.Suite.crypto c.args.view c.args.file.now c.in-Ok.recorded _ _ _ _ c.print_run.result c.in-Ok.ensures c.print_run.ensures.cut

pub returns-in-Err-clause-cut : goal.returns-in-Err-clause-cut
returns-in-Err-clause-cut g c =
    refusal_stops g.P.Progress.reports g.S.Suite.crypto c.args.view c.args.file.now c.in-Err.error _ _ _ c.print_error.result c.in-Err.ensures c.print_error.ensures.prints c.print_error.ensures.memory
