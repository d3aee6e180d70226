use Rattle.std.proofs.Common.{◌≡◌, drop, length, map, take}
use Rattle.mls_cli_replay.specs.Actions.{run_all}
use Rattle.mls_cli_replay.specs.Replay.{actions_of, entry_of}
use Rattle.mls_cli_replay.proofs.Quietly.{Collected}
use Rattle.mls_cli_replay.proofs.Reporting.{Reported}
use Rattle.mls_cli_replay.proofs.quiet.collect_unmet.Given as goal

abbrev pub invariant-loop-action : goal.invariant-loop-action
invariant-loop-action g l = record {
  collected : Collected g.S.Suite.crypto l.initial.world l.recorded l.action l.world (map entry_of l.lines.items) (drop l.action l.recorded);
  reported : Reported g.P.Progress.reports (length l.recorded) l.action l.initial.progress l.progress;
  before : l.world ≡ run_all g.S.Suite.crypto l.initial.world (actions_of (take l.action l.recorded));
}
