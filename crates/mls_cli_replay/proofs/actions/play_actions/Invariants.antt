use Rattle.std.proofs.Common.{◌≡◌, drop, length}
use Rattle.mls_cli_replay.proofs.Playing.{Played}
use Rattle.mls_cli_replay.proofs.Reporting.{Reported}
use Rattle.mls_cli_replay.proofs.Stopping.{Reached}
use Rattle.mls_cli_replay.proofs.actions.play_actions.Given as goal

abbrev pub invariant-loop-action : goal.invariant-loop-action
invariant-loop-action g l = record {
  kept : g.O.Output.failed l.out ≡ g.O.Output.failed l.initial.out;
  played : Played g.S.Suite.crypto l.initial.world l.recorded (g.O.Output.contents l.initial.out) (g.O.Output.contents l.out) l.action l.world l.all_met (drop l.action l.recorded);
  reported : Reported g.P.Progress.reports (length l.recorded) l.action l.initial.progress l.progress;
  reached : Reached g.S.Suite.crypto l.initial.world l.recorded (g.O.Output.contents l.initial.out) (g.O.Output.contents l.out) l.action l.world;
}
