-- The laws of X25519 on bytes, for all lists.
use Rattle.std.specs.Prelude.{◌≡◌, ◌≢◌, ℕ, List}
use Rattle.field25519.specs.Bytes.{decode_little}
use Rattle.x25519.specs.Rfc7748.{nine_bytes, x25519_bytes, clear_cofactor_bytes}

-- two parties, whatever their secrets, come to one shared secret
abbrev pub ExchangeLaw : Type 0
ExchangeLaw =
    (a b : List ℕ) → x25519_bytes a (x25519_bytes b nine_bytes) ≡ x25519_bytes b (x25519_bytes a nine_bytes)

-- a secret never brings a public key to 0
abbrev pub NonzeroLaw : Type 0
NonzeroLaw = (a b : List ℕ) → decode_little (x25519_bytes a (x25519_bytes b nine_bytes)) ≢ 0

-- a public key isn't of low order
abbrev pub HighOrderLaw : Type 0
HighOrderLaw = (b : List ℕ) → decode_little (clear_cofactor_bytes (x25519_bytes b nine_bytes)) ≢ 0
