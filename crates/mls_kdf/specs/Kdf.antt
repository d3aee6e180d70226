-- HMAC (RFC 2104), HKDF (RFC 5869) and the labelled functions of RFC 9420 (5.1.2, 5.2 and 8) over SHA-256, as functions
-- on lists of bytes.
use Rattle.std.specs.Prelude.{ℕ, zero, suc, ◌-◌, List, [], ◌∷◌, ◌++◌, length, take, map, replicate, bit_xor, nat_lt, codes, if◌then◌else◌}
use Rattle.std.specs.Int.{w16, to_be_bytes, div_ceil}
use Rattle.std.specs.List.{flat_map}
use Rattle.sha2.specs.Sha256.{sha256}
use Rattle.mls_wire.specs.Reading.{opaque}
use denote.Ref.{Bor}

-- the pieces, one after another
abbrev pub joined_pieces : List (Bor (List ℕ)) → List ℕ
joined_pieces pieces = flat_map (λ p. p.now) pieces

-- ---- HMAC (RFC 2104, 2)

-- the key, hashed where it is longer than a block of 64 bytes (RFC 2104, 2)
unfoldable pub short_key : List ℕ → List ℕ
short_key key = (if nat_lt 64 (length key) then sha256 key else key)

-- the short key with zeros up to a block, each byte combined by exclusive or with the same byte (RFC 2104, 2)
unfoldable pub padded_key : ℕ → List ℕ → List ℕ
padded_key byte key = map (λ k. bit_xor k byte) (short_key key ++ replicate (64 - length (short_key key)) 0)

-- the tag of a text under a key (RFC 2104, 2)
unfoldable pub hmac : List ℕ → List ℕ → List ℕ
hmac key text = sha256 (padded_key 0x5c key ++ sha256 (padded_key 0x36 key ++ text))

-- ---- HKDF (RFC 5869, 2)

-- the most bytes of one expansion, 255 hashes (RFC 5869, 2.3); MAX_OUTPUT in the code
abbrev pub max_output : ℕ
max_output = 8160

-- HKDF-Extract: salt, input key material (RFC 5869, 2.2)
unfoldable pub extract : List ℕ → List ℕ → List ℕ
extract salt ikm = hmac salt ikm

-- T(0), T(1), .. (RFC 5869, 2.3)
unfoldable pub hkdf_block : List ℕ → List ℕ → ℕ → List ℕ
hkdf_block prk info zero = []
hkdf_block prk info (suc i) = hmac prk (hkdf_block prk info i ++ info ++ suc i ∷ [])

-- T(1) | .. | T(n) (RFC 5869, 2.3)
unfoldable pub hkdf_blocks : List ℕ → List ℕ → ℕ → List ℕ
hkdf_blocks prk info zero = []
hkdf_blocks prk info (suc i) = hkdf_blocks prk info i ++ hkdf_block prk info (suc i)

-- HKDF-Expand: the first n bytes of T(1) | T(2) | .. (RFC 5869, 2.3)
unfoldable pub expand : List ℕ → List ℕ → ℕ → List ℕ
expand prk info n = take n (hkdf_blocks prk info (div_ceil n 32))

-- ---- labels (RFC 9420, 5.1.2, 5.2 and 8)

-- the label behind "MLS 1.0 " (RFC 9420, 5.1.2)
unfoldable pub mls_label : List ℕ → List ℕ
mls_label label = codes "MLS 1.0 " ++ label

-- KDFLabel: label, context, length (RFC 9420, 8)
unfoldable pub kdf_label : List ℕ → List ℕ → ℕ → List ℕ
kdf_label label context n = to_be_bytes w16 n ++ opaque (mls_label label) ++ opaque context

-- ExpandWithLabel: secret, label, context, length (RFC 9420, 8)
unfoldable pub expand_with_label : List ℕ → List ℕ → List ℕ → ℕ → List ℕ
expand_with_label secret label context n = expand secret (kdf_label label context n) n

-- DeriveSecret: secret, label (RFC 9420, 8)
unfoldable pub derive_secret : List ℕ → List ℕ → List ℕ
derive_secret secret label = expand_with_label secret label [] 32

-- RefHash: label, value (RFC 9420, 5.2)
unfoldable pub ref_hash : List ℕ → List ℕ → List ℕ
ref_hash label value = sha256 (opaque label ++ opaque value)
