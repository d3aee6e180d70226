-- What the code says of a signature's equation.
use Rattle.std.specs.Prelude.{ℕ, ◌≡◌, Bool, List}
use Rattle.curve25519.specs.Curve25519.{Point, On}
use Rattle.ed25519.specs.declared.point.ExtendedPoint.{ExtendedPoint}
use Rattle.ed25519.specs.Signatures.{is_met}
use Rattle.ed25519.specs.Coordinates.{Represents}

-- whether the key's point meets the equation with R, S and k
abbrev pub TellsMet : ExtendedPoint → List ℕ → ℕ → ℕ → Bool → Type 0
TellsMet e r s k told = (q : Point) → On q → Represents e q → told ≡ is_met q r s k
