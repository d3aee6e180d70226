-- X25519 on bytes, in the words of RFC 7748, section 5.
use Rattle.std.specs.Prelude.{ℕ, ◌%◌, ◌^◌, List}
use Rattle.curve25519.specs.Field25519.{field, residue, least}
use Rattle.curve25519.specs.X25519.{x25519, clear_cofactor}
use Rattle.field25519.specs.Bytes.{decode_little, encode}
use Rattle.field25519.specs.Scalars.{decode_scalar}

-- decodeUCoordinate: the unused bit is masked, and what is not reduced is taken modulo p
abbrev pub decode_u : List ℕ → field.Of
decode_u b = residue (decode_little b % 2 ^ 255)

-- the bytes of the base point's u-coordinate
abbrev pub nine_bytes : List ℕ
nine_bytes = encode 9

-- decodeScalar25519 and decodeUCoordinate, the ladder, and encodeUCoordinate
abbrev pub x25519_bytes : List ℕ → List ℕ → List ℕ
x25519_bytes k u = encode (least (x25519 (decode_scalar k) (decode_u u)))

-- the u-coordinate of eight times a point
abbrev pub clear_cofactor_bytes : List ℕ → List ℕ
clear_cofactor_bytes u = encode (least (clear_cofactor (decode_u u)))
