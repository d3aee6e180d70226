use Rattle.std.proofs.Common.{map, string_bytes}
use Rattle.mls_cli_replay.proofs.Ending.{Compared}
use Rattle.mls_cli_replay.proofs.ends.differences_of.Given as goal

abbrev pub invariant-loop-number : goal.invariant-loop-number
invariant-loop-number g l = Compared l.world.seats (map string_bytes l.texts) l.number-end l.number l.lines.items
