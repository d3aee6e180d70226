-- The laws of the field, of the curve's group and of the ladder.
use Rattle.std.specs.Prelude.{◌≡◌, ◌≢◌, ℕ, ◌+◌, ◌*◌, ◌%◌, ◌^◌, ◌<◌, ◌≤◌}
use Rattle.curve25519.specs.Field25519.{field, raise}
use Rattle.curve25519.specs.Curve25519.{Point, On, ◌+ₚ◌, origin, multiple, negative, u_of, base, order}
use Rattle.curve25519.specs.X25519.{x25519, nine, clear_cofactor}

-- what q doesn't divide has an inverse modulo q: above 1 this says that q is prime
abbrev pub IsPrime : ℕ → Type 0
IsPrime q = (n : ℕ) → n % q ≢ 0 → (u : ℕ) × (u * n % q ≡ 1)

-- the inverse of the field is one
abbrev pub InverseLaw : Type 0
InverseLaw = (x : field.Of) → x ≢ field.nil → field.mul x (field.inv x) ≡ field.one

-- powers count their factors
abbrev pub PowerLaw : Type 0
PowerLaw = record {
  none : (x : field.Of) → raise x 0 ≡ field.one;
  once : (x : field.Of) → raise x 1 ≡ x;
  sum : (x : field.Of) (m n : ℕ) → raise x (m + n) ≡ field.mul (raise x m) (raise x n);
}

-- the points of the curve are a commutative group
abbrev pub ClosedLaw : Type 0
ClosedLaw = (p q : Point) → On p → On q → On (p +ₚ q)

abbrev pub AssociativeLaw : Type 0
AssociativeLaw = (p q r : Point) → On p → On q → On r → ((p +ₚ q) +ₚ r) ≡ (p +ₚ (q +ₚ r))

abbrev pub CommutativeLaw : Type 0
CommutativeLaw = (p q : Point) → (p +ₚ q) ≡ (q +ₚ p)

abbrev pub NeutralLaw : Type 0
NeutralLaw = (p : Point) → (p +ₚ origin) ≡ p

abbrev pub OppositeLaw : Type 0
OppositeLaw = (p : Point) → On p → (p +ₚ negative p) ≡ origin

-- multiples count how often a point is added up
abbrev pub MultipleLaw : Type 0
MultipleLaw = record {
  none : (p : Point) → multiple p 0 ≡ origin;
  once : (p : Point) → multiple p 1 ≡ p;
  sum : (p : Point) (m n : ℕ) → On p → multiple p (m + n) ≡ (multiple p m +ₚ multiple p n);
}

-- 1 + y and 1 - y aren't 0: the point has a u-coordinate, and that isn't 0
abbrev pub HasCoordinate : Point → Type 0
HasCoordinate p = (field.add field.one p.1 ≢ field.nil) × (field.add field.one (field.neg p.1) ≢ field.nil)

-- the ladder takes the u-coordinate of a point to that of its multiple; by `u_of` this is 0 for the neutral point
abbrev pub LadderLaw : Type 0
LadderLaw =
    (n : ℕ) (p : Point) → n < 2 ^ 255 → On p → HasCoordinate p
    → x25519 n (u_of p) ≡ u_of (multiple p n)

-- so does clearing the cofactor, at eight times
abbrev pub CofactorLaw : Type 0
CofactorLaw = (p : Point) → On p → HasCoordinate p → clear_cofactor (u_of p) ≡ u_of (multiple p 8)

-- which brings a point of low order to 0
abbrev pub LowOrderLaw : Type 0
LowOrderLaw =
    (p : Point) → On p → HasCoordinate p → multiple p 8 ≡ origin → clear_cofactor (u_of p) ≡ field.nil

-- two clamped scalars, in either order, take 9 to one number
abbrev pub ExchangeLaw : Type 0
ExchangeLaw =
    (m n : ℕ) → 2 ^ 254 ≤ 8 * m → 8 * m < 2 ^ 255 → 2 ^ 254 ≤ 8 * n → 8 * n < 2 ^ 255
    → x25519 (8 * m) (x25519 (8 * n) nine) ≡ x25519 (8 * n) (x25519 (8 * m) nine)

-- the equation that a verifier checks, with the public key a times the base point
abbrev pub SignatureLaw : Type 0
SignatureLaw =
    (r k a : ℕ) → multiple base ((r + k * a) % order) ≡ (multiple base r +ₚ multiple (multiple base a) k)
