-- Bytes in slices: word k has bit k of each byte, and lane i the byte at bit i.
use Rattle.std.specs.Prelude.{◌≡◌, ℕ, ◌+◌, ◌*◌, ◌/◌, ◌%◌, ◌^◌, ◌<◌, List, [], ◌∷◌, map, length, slice_index}
use Rattle.std.specs.Int.{bit_at}
use Rattle.aes128gcm.specs.Aes.{mix}

-- the number of these bits, from the lowest
abbrev pub number : List ℕ → ℕ
number [] = 0
number (b ∷ bs) = b + 2 * number bs

-- bit i of each word
abbrev pub bits_at : List ℕ → ℕ → List ℕ
bits_at q i = map (λ w. bit_at w i) q

-- the byte at bit i
unfoldable pub lane : List ℕ → ℕ → ℕ
lane q i = number (bits_at q i)

-- where byte k of block b lies: byte 4c + r of a block is in row r of column c
abbrev pub place : ℕ → ℕ → ℕ
place b k = 16 * (k % 4) + 4 * (k / 4) + b

-- the slices hold s as block b
abbrev pub Holds : List ℕ → ℕ → List ℕ → Type 0
Holds q b s = (length s ≡ 16) × ((k : ℕ) → k < 16 → lane q (place b k) ≡ slice_index s k)

-- the block that slices hold as block 0
unfoldable pub held : List ℕ → List ℕ
held q =
    lane q (place 0 0) ∷ lane q (place 0 1) ∷ lane q (place 0 2) ∷ lane q (place 0 3)
    ∷ lane q (place 0 4) ∷ lane q (place 0 5) ∷ lane q (place 0 6) ∷ lane q (place 0 7)
    ∷ lane q (place 0 8) ∷ lane q (place 0 9) ∷ lane q (place 0 10) ∷ lane q (place 0 11)
    ∷ lane q (place 0 12) ∷ lane q (place 0 13) ∷ lane q (place 0 14) ∷ lane q (place 0 15) ∷ []

-- a word has the bytes of columns 0 and 2 of a block in turn
abbrev pub IsEvenWord : ℕ → List ℕ → Type 0
IsEvenWord w s = (m : ℕ) → m < 8 → w / 2 ^ (8 * m) % 256 ≡ slice_index s (8 * (m % 2) + m / 2)

-- and the bytes of columns 1 and 3
abbrev pub IsOddWord : ℕ → List ℕ → Type 0
IsOddWord w s = (m : ℕ) → m < 8 → w / 2 ^ (8 * m) % 256 ≡ slice_index s (8 * (m % 2) + 4 + m / 2)

-- the squares of eight by eight bits are turned over
abbrev pub IsTransposed : List ℕ → List ℕ → Type 0
IsTransposed q r =
    (k i : ℕ) → k < 8 → i < 64
    → bit_at (slice_index r k) i ≡ bit_at (slice_index q (i % 8)) (8 * (i / 8) + k)

-- each lane is mixed from those of the four rows, from its own on
abbrev pub MixesRows : List ℕ → List ℕ → Type 0
MixesRows q r =
    (i : ℕ) → i < 64
    → lane r i ≡ mix (lane q i) (lane q ((i + 16) % 64)) (lane q ((i + 32) % 64)) (lane q ((i + 48) % 64))

-- each block becomes f of itself and of a key's block
abbrev pub MapsBlocks : (List ℕ → List ℕ → List ℕ) → List ℕ → List ℕ → List ℕ → Type 0
MapsBlocks f q k r = (b : ℕ) (s key : List ℕ) → b < 4 → Holds q b s → Holds k b key → Holds r b (f s key)
