-- Numbers as 32 bytes and as four words, the lowest first, as RFC 7748 and RFC 8032 have them.
use Rattle.std.specs.Prelude.{ℕ, ◌+◌, ◌*◌, ◌^◌, ◌<◌, List, slice_index}
use Rattle.field25519.specs.declared.words.Words.{Words}
use Rattle.std.specs.Int.{byte_worth, sum_through, bytes_low_first}

-- decodeLittleEndian: b[0] + 256 * b[1] + .. + 256^31 * b[31]
abbrev pub decode_little : List ℕ → ℕ
decode_little b = sum_through (λ i. byte_worth i (slice_index b i)) 31

-- n / 256^i % 256 for i from 0 to 31
abbrev pub encode : ℕ → List ℕ
encode n = bytes_low_first 0 32 n

-- four words of 64 bits as one number
abbrev pub joined_words : ℕ → ℕ → ℕ → ℕ → ℕ
joined_words a b c d = a + 2 ^ 64 * b + 2 ^ 128 * c + 2 ^ 192 * d

abbrev pub joined : Words → ℕ
joined w = joined_words w.a w.b w.c w.d

-- the eight bytes from a place on as one number
abbrev pub word_at : List ℕ → ℕ → ℕ
word_at b i =
    slice_index b i + 256 * slice_index b (i + 1) + 256 ^ 2 * slice_index b (i + 2) + 256 ^ 3 * slice_index b (i + 3)
    + 256 ^ 4 * slice_index b (i + 4) + 256 ^ 5 * slice_index b (i + 5) + 256 ^ 6 * slice_index b (i + 6)
    + 256 ^ 7 * slice_index b (i + 7)

-- each is below 256, and 0 past the end
abbrev pub AreBytes : List ℕ → Type 0
AreBytes b = (k : ℕ) → slice_index b k < 256
