use Rattle.std.proofs.Common.{◌∙◌, ap, length}
use Rattle.mls_model.specs.World.{World}
use Rattle.mls_cli_replay.specs.Actions.{run_all}
use Rattle.mls_cli_replay.specs.Replay.{actions_of}
use Rattle.mls_cli_replay.proofs.Viewing.{kept_one, tree_printed}
use Rattle.mls_cli_replay.proofs.Reporting.{reports_done, reports_front}
use Rattle.mls_cli_replay.proofs.AtFault.{stops_behind, stops_with}
use Rattle.mls_cli_replay.proofs.member_tree.print_tree.Goals as goal

pub returns-in_err-do_actions-clause-prints : goal.returns-in_err-do_actions-clause-prints
returns-in_err-do_actions-clause-prints g c = kept_one _ c.from_residual.result _ c.from_residual.ensures.0

pub returns-clause-prints : goal.returns-clause-prints
returns-clause-prints g c =
    tree_printed g.S.Suite.crypto c.args.number c.args.recorded.now c.do_actions.new.world c.found_page.result _ _ c.print_made_page.result
    (c.in_ok-do_actions.ensures.world ∙ ap (λ (w : World). run_all g.S.Suite.crypto w (actions_of c.args.recorded.now)) c.new-world.ensures)
    c.member.ensures c.found_page.ensures c.print_made_page.ensures.prints

pub returns-in_err-do_actions-clause-reports : goal.returns-in_err-do_actions-clause-reports
returns-in_err-do_actions-clause-reports g c =
    reports_front g.P.Progress.reports (length c.args.recorded.now) _ _ c.from_residual.result c.from_residual.ensures.0 c.in_err-do_actions.ensures.reports

pub returns-clause-reports : goal.returns-clause-reports
returns-clause-reports g c = reports_done g.P.Progress.reports (length c.args.recorded.now) _ _ c.print_made_page.result c.in_ok-do_actions.ensures.reports

pub returns-in_err-do_actions-clause-cut : goal.returns-in_err-do_actions-clause-cut
returns-in_err-do_actions-clause-cut g c =
    stops_with g.P.Progress.reports (length c.args.recorded.now) _ _ _ c.from_residual.result _ c.in_err-do_actions.ensures.fault c.from_residual.ensures.1

pub returns-clause-cut : goal.returns-clause-cut
returns-clause-cut g c = stops_behind g.P.Progress.reports (length c.args.recorded.now) _ _ _ _ c.print_made_page.result c.in_ok-do_actions.ensures.reports
