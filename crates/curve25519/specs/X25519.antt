-- X25519 on numbers of the field, as RFC 7748, section 5, has it.
use Rattle.std.specs.Prelude.{ℕ}
use Rattle.curve25519.specs.Field25519.{field, residue}
use Rattle.curve25519.specs.Ladder.{exchange}

-- (486662 - 2) / 4
unfoldable pub a24 : field.Of
a24 = residue 121665

-- the u-coordinate of the base point
unfoldable pub nine : field.Of
nine = residue 9

abbrev pub x25519 : ℕ → field.Of → field.Of
x25519 k u = exchange field a24 255 k u

-- eight times a point, 8 being the cofactor, by the ladder of four bits
abbrev pub clear_cofactor : field.Of → field.Of
clear_cofactor u = exchange field a24 4 8 u
