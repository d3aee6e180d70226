-- Clamped scalars: decodeScalar25519 of RFC 7748, section 5, and step 2 of RFC 8032, section 5.1.5.
use Rattle.std.specs.Prelude.{ℕ, ◌==◌, ◌%◌, List, cond, slice_index}
use Rattle.std.specs.Int.{byte_worth, sum_through}
use Rattle.std.specs.Int.Bits.{bit_and, bit_or}

-- the byte at a place, 0 where the list ends before it
abbrev pub octet : List ℕ → ℕ → ℕ
octet k i = slice_index k i % 256

-- k_list[0] &= 248, k_list[31] &= 127, k_list[31] |= 64
abbrev pub clamp : ℕ → ℕ → ℕ
clamp i b = cond (i == 0) (bit_and b 248) (cond (i == 31) (bit_or (bit_and b 127) 64) b)

-- decodeScalar25519: the number of the clamped bytes, the lowest first
unfoldable pub decode_scalar : List ℕ → ℕ
decode_scalar k = sum_through (λ i. byte_worth i (clamp i (octet k i))) 31
