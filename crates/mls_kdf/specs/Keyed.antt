-- What a keyed hash in progress holds.
use Rattle.std.specs.Prelude.{ℕ, List, ◌++◌}
use Rattle.sha2.specs.Hashers.{Holds256}
use Rattle.mls_kdf.specs.Kdf.{padded_key}
use Rattle.mls_kdf.specs.declared.keyed_hash.KeyedHash.{KeyedHash}

-- the keyed hash s has this key, and holds this text
pub record IsKeyed (s : KeyedHash) (key text : List ℕ) : Type 0 where
  pub inner : Holds256 s.inner (padded_key 0x36 key ++ text)
  pub outer : Holds256 s.outer (padded_key 0x5c key)

-- under whatever key, the keyed hash holds more: this piece behind its text
abbrev pub AddsText : KeyedHash → List ℕ → KeyedHash → Type 0
AddsText old piece new = (key text : List ℕ) → IsKeyed old key text → IsKeyed new key (text ++ piece)
