use Rattle.std.proofs.Common.{length}
use Rattle.mls_cli_replay.proofs.FoundMessages.{found_prints, nothing_prints}
use Rattle.mls_cli_replay.proofs.Messages.{page_from}
use Rattle.mls_cli_replay.proofs.Reporting.{reports_done, reports_front}
use Rattle.mls_cli_replay.proofs.AtFault.{stops_behind, stops_with}
use Rattle.mls_cli_replay.proofs.message.print_message.Goals as goal

pub returns-in_err-do_actions-clause-prints : goal.returns-in_err-do_actions-clause-prints
returns-in_err-do_actions-clause-prints g c = nothing_prints c.from_residual.result _ _ c.from_residual.ensures.0

pub returns-clause-prints : goal.returns-clause-prints
returns-clause-prints g c =
    found_prints g.S.Suite.crypto c.args.number c.args.recorded.now c.do_actions.new.world c.message_page.result _ _ c.print_made_page.result
    (page_from g.S.Suite.crypto c.args.number c.args.recorded.now c.new-world.result c.do_actions.new.world c.new-world.ensures c.in_ok-do_actions.ensures.world)
    c.message.ensures c.message_page.ensures c.print_made_page.ensures.prints

pub returns-in_err-do_actions-clause-reports : goal.returns-in_err-do_actions-clause-reports
returns-in_err-do_actions-clause-reports g c =
    reports_front g.P.Progress.reports (length c.args.recorded.now) _ _ c.from_residual.result c.from_residual.ensures.0 c.in_err-do_actions.ensures.reports

pub returns-clause-reports : goal.returns-clause-reports
returns-clause-reports g c = reports_done g.P.Progress.reports (length c.args.recorded.now) _ _ c.print_made_page.result c.in_ok-do_actions.ensures.reports

pub returns-in_err-do_actions-clause-cut : goal.returns-in_err-do_actions-clause-cut
returns-in_err-do_actions-clause-cut g c =
    stops_with g.P.Progress.reports (length c.args.recorded.now) _ _ _ c.from_residual.result _ c.in_err-do_actions.ensures.fault c.from_residual.ensures.1

pub returns-clause-cut : goal.returns-clause-cut
returns-clause-cut g c = stops_behind g.P.Progress.reports (length c.args.recorded.now) _ _ _ _ c.print_made_page.result c.in_ok-do_actions.ensures.reports
