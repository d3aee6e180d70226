-- The curve of X25519 and Ed25519, in the coordinates of RFC 8032, section 5.1.
use Rattle.std.specs.Prelude.{ℕ}
use Rattle.curve25519.specs.Field25519.{field, residue}
use Rattle.curve25519.specs.Edwards.{Pair, IsOn, sum, origin as neutral, multiple as multiple_over}

-- -121665 / 121666
unfoldable pub d : field.Of
d = residue 37095705934669439343138083508754565189542113879843219016388785533085940283555

-- a square root of -1: 2 to the (p - 1) / 4
unfoldable pub root_of_minus_one : field.Of
root_of_minus_one = residue 19681161376707505956807079304988542015446066515923890162744021073123829784752

abbrev pub Point : Type 0
Point = Pair field

abbrev pub On : Point → Type 0
On p = IsOn field d p

abbrev pub ◌+ₚ◌ : Point → Point → Point
p +ₚ q = sum field d p q

infixl 50 ◌+ₚ◌
abbrev pub origin : Point
origin = neutral field

abbrev pub multiple : Point → ℕ → Point
multiple p n = multiple_over field d p n

-- the point that adds up with p to the neutral one
abbrev pub negative : Point → Point
negative p = (field.neg p.0, p.1)

-- the u-coordinate of RFC 7748, section 4.1: (1 + y) / (1 - y)
abbrev pub u_of : Point → field.Of
u_of p = field.mul (field.add field.one p.1) (field.inv (field.add field.one (field.neg p.1)))

-- B: its y is 4 / 5, its x even
unfoldable pub base : Point
base = (
  residue 15112221349535400772501151409588531511454012693041857206046113283949847762202,
  residue 46316835694926478169428394003475163141307993866256225615783033603165251855960,
)

-- L: 2^252 + 27742317777372353535851937790883648493
abbrev pub order : ℕ
order = 7237005577332262213973186563042994240857116359379907606001950938285454250989
