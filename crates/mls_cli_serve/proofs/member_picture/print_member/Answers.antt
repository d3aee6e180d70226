use Rattle.mls_cli_replay.proofs.ReportLaws.{fault_reported, file_reported}
use Rattle.mls_cli_serve.proofs.MemberPicture.{pictures}
use Rattle.mls_cli_serve.proofs.member_picture.print_member.Goals as goal

pub returns-clause-prints : goal.returns-clause-prints
returns-clause-prints g c =
    pictures g.S.Suite.crypto c.args.member c.args.drawing c.args.file.now _ _ _ c.in_ok-status.status _ _ c.print_picture.result
    c.new-printed.ensures.items c.as_slice.ensures.value c.in_ok-status.ensures.prints c.print_picture.ensures.prints

pub returns-in_err-status-clause-reports : goal.returns-in_err-status-clause-reports
returns-in_err-status-clause-reports g c =
    fault_reported g.P.Progress.reports g.S.Suite.crypto c.args.file.now _ _ _ c.from_residual.result c.from_residual.ensures.0 c.in_err-status.ensures.reports

pub returns-clause-reports : goal.returns-clause-reports
returns-clause-reports g c =
    file_reported g.P.Progress.reports g.S.Suite.crypto c.args.file.now _ _ c.in_ok-status.status c.print_picture.result c.in_ok-status.ensures.reports
