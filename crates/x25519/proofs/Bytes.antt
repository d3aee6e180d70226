-- The laws of X25519 on bytes.
use Rattle.std.specs.Prelude.{◌≡◌, ℕ, ◌+◌, ◌*◌, ◌/◌, ◌%◌, ◌^◌, ◌<◌, ◌≤◌, List, refl}
use Rattle.std.specs.Int.{byte_worth, sum_through}
use Rattle.std.proofs.Common.{sym, ap, ap₂, ◌∙◌, arith}
use Rattle.curve25519.specs.Field25519.{prime, field, residue, least}
use Rattle.curve25519.specs.Codes.{residue_least}
use Rattle.curve25519.specs.X25519.{x25519, nine, clear_cofactor}
use Rattle.curve25519.proofs.Field25519.{least_below, residue-zero}
use Rattle.curve25519.proofs.X25519.{exchange_law as exchanged, x25519_nonzero, clear_cofactor_nonzero}
use Rattle.field25519.specs.Bytes.{decode_little, encode}
use Rattle.field25519.specs.Scalars.{octet, decode_scalar}
use Rattle.field25519.proofs.Encoding.{decode_little-encode}
use Rattle.field25519.proofs.Scalars.{clamped, decode_scalar_is}
use Rattle.x25519.specs.Rfc7748.{decode_u, nine_bytes, x25519_bytes, clear_cofactor_bytes}
use Rattle.x25519.specs.Laws.{ExchangeLaw, NonzeroLaw, HighOrderLaw}

pub decode_u-encode : (x : field.Of) → decode_u (encode (least x)) ≡ x
decode_u-encode x =
    ap residue (ap (λ t. t % 2 ^ 255) (decode_little-encode (least x) (omega (arith, least_below x))) ∙ small (least x) (least_below x)) ∙ residue_least x
  where
    small : (n : ℕ) → n < prime → n % 2 ^ 255 ≡ n
    small n low = omega arith

pub decode_nine : decode_u nine_bytes ≡ nine
unfolding nine
decode_nine = refl

-- a clamped scalar is a multiple of 8 in its range
eighth : ℕ → ℕ
eighth n = 2 ^ 251 + n % 2 ^ 254 / 8

clamped_is : (n : ℕ) → clamped n ≡ 8 * eighth n
unfolding eighth
clamped_is n = omega arith

eighth_low : (n : ℕ) → 2 ^ 254 ≤ 8 * eighth n
unfolding eighth
eighth_low n = omega arith

eighth_high : (n : ℕ) → 8 * eighth n < 2 ^ 255
unfolding eighth
eighth_high n = omega arith

number : List ℕ → ℕ
number k = sum_through (λ i. byte_worth i (octet k i)) 31

scalar_is : (k : List ℕ) → decode_scalar k ≡ 8 * eighth (number k)
unfolding number
scalar_is k = decode_scalar_is k ∙ clamped_is (number k)

-- a public key and a shared secret, in numbers
public_is : (b : List ℕ) → decode_u (x25519_bytes b nine_bytes) ≡ x25519 (8 * eighth (number b)) nine
public_is b = decode_u-encode (x25519 (decode_scalar b) (decode_u nine_bytes)) ∙ ap₂ x25519 (scalar_is b) decode_nine

shared_is : (a b : List ℕ) → x25519_bytes a (x25519_bytes b nine_bytes) ≡ encode (least (x25519 (8 * eighth (number a)) (x25519 (8 * eighth (number b)) nine)))
shared_is a b = ap₂ (λ k u. encode (least (x25519 k u))) (scalar_is a) (public_is b)

pub exchange_law : ExchangeLaw
exchange_law a b =
    shared_is a b
    ∙ ap (λ x. encode (least x)) (exchanged (eighth (number a)) (eighth (number b)) (eighth_low (number a)) (eighth_high (number a)) (eighth_low (number b)) (eighth_high (number b)))
    ∙ sym (shared_is b a)

-- the bytes of a number of the field are 0 where it is
zero_bytes : (x : field.Of) (b : List ℕ) → b ≡ encode (least x) → decode_little b ≡ 0 → x ≡ field.nil
zero_bytes x b e z =
    sym (residue_least x) ∙ ap residue (sym (decode_little-encode (least x) (omega (arith, least_below x))) ∙ ap decode_little (sym e) ∙ z) ∙ residue-zero

pub nonzero_law : NonzeroLaw
nonzero_law a b z =
    x25519_nonzero (eighth (number a)) (eighth (number b)) (eighth_low (number a)) (eighth_high (number a)) (eighth_low (number b)) (eighth_high (number b))
    (zero_bytes (x25519 (8 * eighth (number a)) (x25519 (8 * eighth (number b)) nine)) (x25519_bytes a (x25519_bytes b nine_bytes)) (shared_is a b) z)

pub high_order_law : HighOrderLaw
high_order_law b z =
    clear_cofactor_nonzero (eighth (number b)) (eighth_low (number b)) (eighth_high (number b))
    (zero_bytes (clear_cofactor (x25519 (8 * eighth (number b)) nine)) (clear_cofactor_bytes (x25519_bytes b nine_bytes)) (ap (λ u. encode (least (clear_cofactor u))) (public_is b)) z)
