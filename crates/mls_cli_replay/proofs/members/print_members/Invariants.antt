use Rattle.std.proofs.Common.{◌≡◌}
use Rattle.mls_cli_replay.proofs.Naming.{Named}
use Rattle.mls_cli_replay.proofs.members.print_members.Given as goal

abbrev pub invariant-loop-number : goal.invariant-loop-number
invariant-loop-number g l = record {
  kept : g.O.Output.failed l.out ≡ g.O.Output.failed l.initial.out;
  named : Named l.world.seats (g.O.Output.contents l.initial.out) (g.O.Output.contents l.out) l.number;
}
