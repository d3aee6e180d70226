-- Points in extended coordinates, as RFC 8032, section 5.1.4, has them.
use Rattle.std.specs.Prelude.{◌≡◌, ◌≢◌}
use Rattle.curve25519.specs.Numbers.{Numbers}
use Rattle.curve25519.specs.Edwards.{Pair}

module _ (f : Numbers) where
  open f use {Of, nil, mul}

  -- X, Y, Z, T
  abbrev pub Extended : Type 0
  Extended = Of × Of × Of × Of

  -- a point's coordinates with the given Z
  abbrev pub extended : Pair f → Of → Extended
  extended p z = (mul p.0 z, mul p.1 z, z, mul (mul p.0 p.1) z)

  -- x is X / Z, y is Y / Z, and x * y is T / Z
  abbrev pub Represents : Extended → Pair f → Type 0
  Represents a p = (z : Of) × (z ≢ nil) × (a ≡ extended p z)
