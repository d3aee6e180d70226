-- The round keys of a key, in slices.
use Rattle.std.specs.Prelude.{ℕ, ◌<◌, List, [], slice_index_or}
use Rattle.aes128gcm.specs.Aes.{round_key, cipher}
use Rattle.aes128gcm.specs.Lanes.{Holds, held}

-- the key's eleven round keys in slices, each in all four blocks
abbrev pub AreSlicedKeys : List ℕ → List (List ℕ) → Type 0
AreSlicedKeys key keys = (b i : ℕ) (d : List ℕ) → b < 4 → i < 11 → Holds (slice_index_or keys i d) b (round_key key i)

-- the key whose round keys these are: the first
abbrev pub key_of : List (List ℕ) → List ℕ
key_of keys = held (slice_index_or keys 0 [])

-- each block is ciphered under the key of these round keys
abbrev pub EncryptsBlocks : List (List ℕ) → List ℕ → List ℕ → Type 0
EncryptsBlocks keys q r =
    (b : ℕ) (key s : List ℕ) → b < 4 → AreSlicedKeys key keys → Holds q b s → Holds r b (cipher key s)
