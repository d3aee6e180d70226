-- The laws of Ed25519 on bytes.
use Rattle.std.specs.Prelude.{ℕ, ◌≡◌, List, Some, length, true}
use Rattle.curve25519.specs.Curve25519.{Point, On}
use Rattle.field25519.specs.Bytes.{AreBytes}
use Rattle.ed25519.specs.Points.{encode_point, decode_point}
use Rattle.ed25519.specs.Signatures.{public_key, sign, verify}

-- a point of the curve comes back from its 32 bytes
abbrev pub DecodesEncoded : Type 0
DecodesEncoded = (q : Point) → On q → decode_point (encode_point q) ≡ Some q

-- what 32 bytes decode to is a point of the curve, and they are its bytes: no others decode to it
abbrev pub EncodesDecoded : Type 0
EncodesDecoded =
    (b : List ℕ) (q : Point) → length b ≡ 32 → AreBytes b → decode_point b ≡ Some q → On q × (encode_point q ≡ b)

-- what is signed with a secret, of 32 bytes or of any length, verifies under the secret's public key
abbrev pub VerifiesSigned : Type 0
VerifiesSigned =
    (secret message : List ℕ) → verify (public_key secret) message (sign secret message) ≡ true
