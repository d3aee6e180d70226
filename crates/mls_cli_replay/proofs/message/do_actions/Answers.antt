use Rattle.mls_cli_replay.proofs.Stopping.{played_part_done}
use Rattle.mls_cli_replay.proofs.message.do_actions.Goals as goal

pub returns-in-Err-clause-cut : goal.returns-in-Err-clause-cut
returns-in-Err-clause-cut g c =
    played_part_done g.P.Progress.reports g.S.Suite.crypto c.args.world.now c.args.recorded.now _ _ _ _ c.play_actions.new.world c.in-Err.ensures.cut
