use Rattle.std.proofs.Common.{◌-◌, ◌/◌, ◌^◌}
use Rattle.curve25519.specs.Curve25519.{Point, On, multiple}
use Rattle.field25519.specs.Bytes.{joined}
use Rattle.ed25519.specs.Coordinates.{Represents}
use Rattle.ed25519.proofs.point_multiple.multiply_point.Given as goal

abbrev pub invariant-loop-i : goal.invariant-loop-i
invariant-loop-i l = (q : Point) → On q → Represents l.point q → Represents l.sum (multiple q (joined l.scalar / 4 ^ (128 - l.i)))
