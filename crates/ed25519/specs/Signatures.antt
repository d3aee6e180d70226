-- Keys and signatures on bytes: RFC 8032, sections 5.1.5 to 5.1.7.
use Rattle.std.specs.Prelude.{ℕ, ◌+◌, ◌*◌, ◌%◌, ◌==◌, ◌&&◌, Bool, false, List, ◌++◌, length, take, drop, slice_index, Option, Some, None, nat_lt}
use Rattle.std.specs.Int.{byte_worth, sum_through}
use Rattle.std.specs.Str.{bytes_eq}
use Rattle.sha2.specs.Sha512.{sha512}
use Rattle.curve25519.specs.Curve25519.{Point, ◌+ₚ◌, multiple, base, order}
use Rattle.field25519.specs.Bytes.{decode_little, encode}
use Rattle.field25519.specs.Scalars.{decode_scalar}
use Rattle.ed25519.specs.Points.{negative, encode_point, decode_point}

-- 64 bytes as a number, the lowest first
abbrev pub decode_64 : List ℕ → ℕ
decode_64 b = sum_through (λ i. byte_worth i (slice_index b i)) 63

-- SHA-512 of a message as a number modulo L
abbrev pub hash_number : List ℕ → ℕ
hash_number m = decode_64 (sha512 m) % order

-- 5.1.5: the secret scalar is the first half of the secret's digest, clamped
abbrev pub secret_scalar : List ℕ → ℕ
secret_scalar secret = decode_scalar (take 32 (sha512 secret))

-- 5.1.6, step 1: the prefix is the second half
abbrev pub prefix : List ℕ → List ℕ
prefix secret = drop 32 (sha512 secret)

-- the bytes of [n]B
abbrev pub multiple_bytes : ℕ → List ℕ
multiple_bytes n = encode_point (multiple base n)

-- 5.1.5: A
abbrev pub public_key : List ℕ → List ℕ
public_key secret = multiple_bytes (secret_scalar secret)

-- 5.1.6, step 2: r
abbrev pub nonce : List ℕ → List ℕ → ℕ
nonce secret message = hash_number (prefix secret ++ message)

-- 5.1.6, step 3: R
abbrev pub commitment : List ℕ → List ℕ → List ℕ
commitment secret message = multiple_bytes (nonce secret message)

-- 5.1.6, step 4: k, of R, A and the message
abbrev pub challenge : List ℕ → List ℕ → List ℕ → ℕ
challenge r key message = hash_number (r ++ key ++ message)

-- 5.1.6, step 5: S = r + k s modulo L
abbrev pub answer : List ℕ → List ℕ → ℕ
answer secret message =
    (nonce secret message
    + challenge (commitment secret message) (public_key secret) message * secret_scalar secret) % order

-- 5.1.6, step 6: R and S
abbrev pub sign : List ℕ → List ℕ → List ℕ
sign secret message = commitment secret message ++ encode (answer secret message)

-- 5.1.7, step 3, with no cofactor: [S]B - [k]A has the bytes R
abbrev pub is_met : Point → List ℕ → ℕ → ℕ → Bool
is_met a r s k = bytes_eq (encode_point (multiple base s +ₚ multiple (negative a) k)) r

-- it is met by the point that the key decodes to
abbrev pub is_met_by : Option Point → List ℕ → ℕ → ℕ → Bool
is_met_by None r s k = false
is_met_by (Some a) r s k = is_met a r s k

-- 5.1.7: S is below L, the key is a point, and the equation holds
abbrev pub verify_halves : List ℕ → List ℕ → List ℕ → List ℕ → Bool
verify_halves key message r s =
    nat_lt (decode_little s) order
    && is_met_by (decode_point key) r (decode_little s) (challenge r key message)

-- 5.1.7: the key has 32 bytes, the signature 64
abbrev pub verify : List ℕ → List ℕ → List ℕ → Bool
verify key message signature =
    (length key == 32) && (length signature == 64)
    && verify_halves key message (take 32 signature) (drop 32 signature)
