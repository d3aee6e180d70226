-- The points that the code's coordinates stand for.
use Rattle.std.specs.Prelude.{ℕ, ◌≡◌, ◌+◌, ◌*◌, Option, MatchOption, Some, None}
use Rattle.curve25519.specs.Field25519.{field}
use Rattle.curve25519.specs.Extended.{Extended, Represents as Represents_over}
use Rattle.curve25519.specs.Curve25519.{d, Point, On, ◌+ₚ◌, multiple, base}
use Rattle.ed25519.specs.declared.point.ExtendedPoint.{ExtendedPoint}
use Rattle.ed25519.specs.declared.cached.CachedPoint.{CachedPoint}
use Rattle.ed25519.specs.declared.point_multiple.SmallMultiples.{SmallMultiples}
open field use {Of, add, mul, neg}

-- X, Y, Z, T
abbrev pub coordinates : ExtendedPoint → Extended field
coordinates e = (e.x, e.y, e.z, e.t)

-- the coordinates e f, g h, f g and e h
abbrev pub of_factors : Of → Of → Of → Of → Extended field
of_factors e f g h = (mul e f, mul g h, mul f g, mul e h)

-- the coordinates are the point's
abbrev pub Represents : ExtendedPoint → Point → Type 0
Represents e q = Represents_over field (coordinates e) q

-- half the sum and half the difference of Y and X, Z, and d T, of coordinates of the point
abbrev pub Caches : CachedPoint → Point → Type 0
Caches c q =
    (e : Extended field)
    × Represents_over field e q
    × (add c.sum c.difference ≡ e.1)
    × (add c.sum (neg c.difference) ≡ e.0)
    × (c.z ≡ e.2)
    × (c.product ≡ mul d e.3)

-- a decoder's answer: none where there is no point, and otherwise coordinates of the point, on the curve
abbrev pub Decodes : Option ExtendedPoint → Option Point → Type 0
Decodes out point =
    MatchOption out (point ≡ None) (λ e. (q : Point) × (point ≡ Some q) × On q × Represents e q)

-- ---- sums and multiples

abbrev pub IsSum : ExtendedPoint → CachedPoint → ExtendedPoint → Type 0
IsSum e c out =
    (p q : Point) → On p → On q → Represents e p → Caches c q → Represents out (p +ₚ q)

abbrev pub IsTwice : ExtendedPoint → ExtendedPoint → Type 0
IsTwice e out = (q : Point) → On q → Represents e q → Represents out (q +ₚ q)

abbrev pub IsFourTimes : ExtendedPoint → ExtendedPoint → Type 0
IsFourTimes e out =
    (q : Point) (m : ℕ) → On q → Represents e (multiple q m) → Represents out (multiple q (4 * m))

abbrev pub IsMultiple : ExtendedPoint → ℕ → ExtendedPoint → Type 0
IsMultiple e n out = (q : Point) → On q → Represents e q → Represents out (multiple q n)

-- n times the base point is added to any multiple of it
abbrev pub AddsOfBase : ExtendedPoint → ℕ → ExtendedPoint → Type 0
AddsOfBase e n out = (m : ℕ) → Represents e (multiple base m) → Represents out (multiple base (m + n))

-- the first three multiples of the point
abbrev pub CacheMultiples : SmallMultiples → Point → Type 0
CacheMultiples s q = Caches s.one (multiple q 1) × Caches s.two (multiple q 2) × Caches s.three (multiple q 3)

-- n times the point is added to any multiple of it
abbrev pub AddsMultiple : SmallMultiples → ExtendedPoint → ℕ → ExtendedPoint → Type 0
AddsMultiple s e n out =
    (q : Point) (m : ℕ) → On q → CacheMultiples s q → Represents e (multiple q m) → Represents out (multiple q (m + n))
