-- The twisted Edwards curve with a = -1: its points, their sum and their multiples.
use Rattle.std.specs.Prelude.{◌≡◌, ◌≢◌, ℕ, zero, suc}
use Rattle.curve25519.specs.Numbers.{Numbers}

module _ (f : Numbers) where
  open f use {Of, nil, one, add, mul, neg, inv}

  abbrev pub Pair : Type 0
  Pair = Of × Of

  -- y^2 = x^2 + 1 + d * x^2 * y^2
  abbrev pub IsOn : Of → Pair → Type 0
  IsOn d p = mul p.1 p.1 ≡ add (add (mul p.0 p.0) one) (mul (mul (mul (mul d p.0) p.0) p.1) p.1)

  abbrev pub NotSquare : Of → Type 0
  NotSquare d = (x : Of) → mul x x ≢ d

  -- d * x1 * x2 * y1 * y2
  abbrev pub cross : Of → Pair → Pair → Of
  cross d p q = mul (mul (mul (mul d p.0) q.0) p.1) q.1

  -- x1 * y2 + y1 * x2
  abbrev pub above_x : Pair → Pair → Of
  above_x p q = add (mul p.0 q.1) (mul p.1 q.0)

  -- y1 * y2 + x1 * x2
  abbrev pub above_y : Pair → Pair → Of
  above_y p q = add (mul p.1 q.1) (mul p.0 q.0)

  abbrev pub below_x : Of → Pair → Pair → Of
  below_x d p q = add one (cross d p q)

  abbrev pub below_y : Of → Pair → Pair → Of
  below_y d p q = add one (neg (cross d p q))

  -- the sum of two points
  abbrev pub sum : Of → Pair → Pair → Pair
  sum d p q = (mul (above_x p q) (inv (below_x d p q)), mul (above_y p q) (inv (below_y d p q)))

  -- the neutral point
  abbrev pub origin : Pair
  origin = (nil, one)

  -- a point added up n times
  unfoldable pub multiple : Of → Pair → ℕ → Pair
  multiple d b zero = origin
  multiple d b (suc n) = sum d (multiple d b n) b
