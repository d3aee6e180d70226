use Rattle.std.proofs.Common.{◌≡◌, ◌<◌}
use Rattle.ed25519.specs.Rows.{row_of}
use Rattle.ed25519.proofs.base_multiple.read_row.Given as goal

abbrev pub invariant-loop-i : goal.invariant-loop-i
invariant-loop-i l = l.digit < l.i → l.row ≡ row_of l.list l.digit
