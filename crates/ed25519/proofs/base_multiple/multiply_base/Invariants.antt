use Rattle.std.proofs.Common.{◌-◌}
use Rattle.curve25519.specs.Curve25519.{base, multiple}
use Rattle.field25519.specs.Bytes.{joined}
use Rattle.ed25519.specs.Coordinates.{Represents}
use Rattle.ed25519.proofs.Columns.{level}
use Rattle.ed25519.proofs.base_multiple.multiply_base.Given as goal

abbrev pub invariant-loop-i : goal.invariant-loop-i
invariant-loop-i l = Represents l.sum (multiple base (level (joined l.scalar) (8 - l.i) 8))
