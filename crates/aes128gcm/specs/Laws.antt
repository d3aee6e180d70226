-- The laws of AES-128-GCM.
use Rattle.std.specs.Prelude.{◌≡◌, ◌≢◌, ℕ, ◌-◌, ◌<◌, ◌≤◌, List, length, take, drop, Some, None}
use Rattle.aes128gcm.specs.Aes.{times, inverse}
use Rattle.aes128gcm.specs.Gcm.{tag, crypt, gcm_ae, gcm_ad}

-- what is sealed is opened under the same key, nonce and additional data
abbrev pub OpensSealed : Type 0
OpensSealed = (key nonce aad pt : List ℕ) → gcm_ad key nonce aad (gcm_ae key nonce aad pt) ≡ Some pt

-- the bytes before the tag, and the tag
abbrev pub body : List ℕ → List ℕ
body sealed = take (length sealed - 16) sealed

abbrev pub sent : List ℕ → List ℕ
sent sealed = drop (length sealed - 16) sealed

-- an input opens exactly where it has a tag, and this is the tag of what is before it (SP 800-38D, 7.2)
abbrev pub OpensWhereTagged : Type 0
OpensWhereTagged = record {
  opens : (key nonce aad sealed : List ℕ) → 16 ≤ length sealed → tag key nonce aad (body sealed) ≡ sent sealed
      → gcm_ad key nonce aad sealed ≡ Some (crypt key nonce (body sealed));
  differs : (key nonce aad sealed : List ℕ) → tag key nonce aad (body sealed) ≢ sent sealed
      → gcm_ad key nonce aad sealed ≡ None;
  short : (key nonce aad sealed : List ℕ) → length sealed < 16 → gcm_ad key nonce aad sealed ≡ None;
}

-- a byte times its inverse is one, so the definition by a power is the inverse (FIPS 197, 4.4)
abbrev pub InverseInverts : Type 0
InverseInverts = (b : ℕ) → 0 < b → b < 256 → times b (inverse b) ≡ 1
