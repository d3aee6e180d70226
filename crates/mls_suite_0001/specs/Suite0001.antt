-- The cipher suite MLS_128_DHKEMX25519_AES128GCM_SHA256_Ed25519 (RFC 9420, 17.1) as a record: each answer is what the
-- standard of its primitive says. These definitions keep the laws on all lists, so nothing is brought into range here:
-- an X25519 key is read as 32 bytes, 0 where the list ends before, and public keys have 32 bytes and signatures 64
-- always.
use Rattle.std.specs.Prelude.{ℕ, List, [], Option}
use Rattle.std.specs.Option.{option_map}
use Rattle.mls_suite.specs.Crypto.{Crypto, Sealing}
use Rattle.hpke.specs.Rfc9180 as hpke
use Rattle.aes128gcm.specs.Gcm as gcm
use Rattle.ed25519.specs.Signatures as ed25519

-- ---- HPKE in one shot, with empty additional data (RFC 9420, 5.1.3)

-- enc and ct of RFC 9180 as kem_output and ciphertext of HPKECiphertext (RFC 9420, 7.6)
abbrev pub sealing : List ℕ × List ℕ → Sealing
sealing s = record { kem = s.0; ct = s.1 }

-- SealBase(pkR, info, "", pt), with the ephemeral key pair DeriveKeyPair(rnd) (RFC 9180, 6.1 and 4.1)
unfoldable pub seal : List ℕ → List ℕ → List ℕ → List ℕ → Option Sealing
seal pk info pt rnd = option_map sealing (hpke.seal_base pk info [] pt rnd)

-- OpenBase(kem_output, skR, info, "", ciphertext) (RFC 9180, 6.1)
unfoldable pub unseal : List ℕ → List ℕ → List ℕ → List ℕ → Option (List ℕ)
unseal sk kem info ct = hpke.open_base kem sk info [] ct

-- ---- the record

abbrev pub suite_0001 : Crypto
suite_0001 = record {
  number = 0x0001;
  -- DHKEM(X25519, HKDF-SHA256): pk(skX), the keys that it seals to, and DeriveKeyPair (RFC 9180, 4.1 and 7.1)
  public = hpke.public;
  key_ok = hpke.is_fit;
  derive = hpke.derive;
  seal = seal;
  unseal = unseal;
  -- Ed25519, whose private key is the signature key of 32 bytes (RFC 8032, 5.1.5 to 5.1.7)
  sig_public = ed25519.public_key;
  sign = ed25519.sign;
  verify = ed25519.verify;
  -- AEAD_AES_128_GCM (RFC 5116, 5.1)
  aead_seal = gcm.gcm_ae;
  aead_open = gcm.gcm_ad;
}
