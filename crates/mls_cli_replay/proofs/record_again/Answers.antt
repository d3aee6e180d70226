use Rattle.std.proofs.Common.{arith, inl, inr, refl}
use Rattle.std.proofs.KnownBytes.{Keeps-refl}
use Rattle.serde_json.specs.View.{view}
use Rattle.mls_cli_text.specs.Page.{Printout}
use Rattle.mls_cli_replay.specs.Progress.{ReportsFirst}
use Rattle.mls_cli_replay.specs.RecordedReplies.{IsRecordOf}
use Rattle.mls_cli_replay.proofs.Viewing.{prints_as}
use Rattle.mls_cli_replay.proofs.record_again.Goals as goal

pub returns-in-Ok-clause-prints : goal.returns-in-Ok-clause-prints
returns-in-Ok-clause-prints g c =
    prints_as (IsRecordOf g.S.Suite.crypto (view c.in-Ok.value) c.args.recorded.now.actions.items) _ _ _ c.print_record.result
    (λ (p : Printout) is. (view c.in-Ok.value, c.in-Ok.ensures.value, is)) (rw c.as_slice.ensures.value at c.print_record.ensures.prints)

pub returns-in-Err-clause-prints : goal.returns-in-Err-clause-prints
returns-in-Err-clause-prints g c = inl (Keeps-refl _)

pub returns-in-Ok-clause-reports : goal.returns-in-Ok-clause-reports
returns-in-Ok-clause-reports g c = rw c.as_slice.ensures.value at c.print_record.ensures.reports

pub returns-in-Err-clause-reports : goal.returns-in-Err-clause-reports
unfolding ReportsFirst
returns-in-Err-clause-reports g c = (0, omega arith, refl)

pub returns-in-Ok-clause-cut : goal.returns-in-Ok-clause-cut
returns-in-Ok-clause-cut g c = rw c.as_slice.ensures.value at c.print_record.ensures.cut

pub returns-in-Err-clause-cut : goal.returns-in-Err-clause-cut
returns-in-Err-clause-cut g c = inr (refl, Keeps-refl _)
