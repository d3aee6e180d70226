-- A suite for authors of suites to copy: its public keys are its private keys, and nothing is hidden. Keys have 32 bytes,
-- which its record has to keep on lists of any length.
use Rattle.std.specs.Prelude.{ℕ, Bool, true, List, [], ◌++◌, length, take, replicate, nat_eq, if◌then◌else◌, Option, Some, None}
use Rattle.mls_suite.specs.Crypto.{Crypto, Sealing}

-- ---- arguments that no code can pass

-- A list as a key of 32: it is cut, or zeros are added at its end. A key that code can pass stays as it is.
abbrev pub key_from : List ℕ → List ℕ
key_from xs = take 32 (xs ++ replicate 32 0)

-- ---- the record

-- a key of 32 bytes is fit for sealing
abbrev pub is_key : List ℕ → Bool
is_key pk = nat_eq (length pk) 32

abbrev pub open_sealing : List ℕ → Sealing
open_sealing pt = record { kem = []; ct = pt }

-- what is sealed to a fit key lies open
unfoldable pub bare_seal : List ℕ → List ℕ → Option Sealing
bare_seal pk pt = if is_key pk then Some (open_sealing pt) else None

abbrev pub bare : Crypto
bare = record {
  number = 0xF0FF;
  public = key_from;
  key_ok = is_key;
  derive = λ ikm. replicate 32 0;
  seal = λ pk info pt rnd. bare_seal pk pt;
  unseal = λ sk kem info ct. Some ct;
  sig_public = key_from;
  sign = λ sk m. [];
  verify = λ pk m s. true;
  aead_seal = λ key nonce aad pt. pt;
  aead_open = λ key nonce aad ct. Some ct;
}
