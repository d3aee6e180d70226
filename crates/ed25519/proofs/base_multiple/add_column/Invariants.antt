use Rattle.std.proofs.Common.{ℕ, ◌+◌}
use Rattle.curve25519.specs.Curve25519.{base, multiple}
use Rattle.field25519.specs.Bytes.{joined}
use Rattle.ed25519.specs.Coordinates.{Represents}
use Rattle.ed25519.specs.Digits.{column}
use Rattle.ed25519.proofs.base_multiple.add_column.Given as goal

abbrev pub invariant-loop-j : goal.invariant-loop-j
invariant-loop-j l = (m : ℕ) → Represents l.fn.point (multiple base m) → Represents l.sum (multiple base (m + column (joined l.scalar) l.at l.j))
