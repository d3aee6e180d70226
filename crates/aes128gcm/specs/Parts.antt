-- Parts of GCM as the code makes them (SP 800-38D), which contracts of private functions cite.
use Rattle.std.specs.Prelude.{◌≡◌, ℕ, ◌+◌, ◌-◌, ◌*◌, ◌/◌, ◌%◌, ◌^◌, ◌<◌, List, ◌++◌, length, replicate, slice_index}
use Rattle.std.specs.Int.{w32, w128, to_be_bytes, from_be_bytes, div_ceil}
use Rattle.aes128gcm.specs.Gcm.{multiple, absorb, pad}

-- a nonce with a count of four bytes behind it (SP 800-38D, 6.2 and 7.1)
unfoldable pub count_block : List ℕ → ℕ → List ℕ
count_block nonce i = nonce ++ to_be_bytes w32 (i % 2 ^ 32)

-- up to 16 bytes with zeros behind, as a number (SP 800-38D, 6.3 and 7.1)
unfoldable pub block_number : List ℕ → ℕ
block_number part = from_be_bytes w128 (part ++ replicate (16 - length part) 0)

-- GHASH goes on over a text and the zeros behind it (SP 800-38D, 6.4)
unfoldable pub absorb_padded : ℕ → ℕ → List ℕ → ℕ
absorb_padded h from text = absorb h from (pad text) (div_ceil (length text) 16)

-- a block in two words of a table (SP 800-38D, 6.3)
abbrev pub entry : List ℕ → List ℕ → ℕ → ℕ
entry high low i = slice_index high i * 2 ^ 64 + slice_index low i

-- the table has the first entry times each power of x (SP 800-38D, 6.3)
abbrev pub AreMultiples : List ℕ → List ℕ → Type 0
AreMultiples high low = (i : ℕ) → i < 128 → entry high low i ≡ multiple (entry high low 0) i

-- each word has 64 copies of a block's bit, x_0 of the standard first (SP 800-38D, 6.3)
abbrev pub AreCopies : ℕ → List ℕ → Type 0
AreCopies x words = (k : ℕ) → k < 128 → slice_index words k ≡ x / 2 ^ (127 - k) % 2 * 0xFFFFFFFFFFFFFFFF
