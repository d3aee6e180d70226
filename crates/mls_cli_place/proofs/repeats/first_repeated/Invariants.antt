use Rattle.std.proofs.Common.{◌-◌}
use Rattle.mls_cli_place.proofs.Repeating.{Between}
use Rattle.mls_cli_place.proofs.repeats.first_repeated.Given as goal

abbrev pub invariant-loop-high : goal.invariant-loop-high
invariant-loop-high l = Between l.kind l.nodes l.low l.high

abbrev pub decreases-loop-high : goal.decreases-loop-high
decreases-loop-high l = l.high - l.low
