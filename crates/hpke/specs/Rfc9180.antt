-- HPKE in base mode, one shot (RFC 9180): DHKEM(X25519, HKDF-SHA256), HKDF-SHA256 and AES-128-GCM, on lists of bytes.
use Rattle.std.specs.Prelude.{ℕ, Bool, false, not, List, [], ◌∷◌, ◌++◌, length, replicate, nat_eq, codes, if◌then◌else◌, Option, Some, None}
use Rattle.std.specs.Int.{w16, to_be_bytes}
use Rattle.std.specs.Str.{bytes_eq}
use Rattle.mls_kdf.specs.Kdf.{extract, expand}
use Rattle.x25519.specs.Rfc7748.{x25519_bytes, clear_cofactor_bytes, nine_bytes}
use Rattle.aes128gcm.specs.Gcm.{gcm_ae, gcm_ad}

-- ---- the labelled functions (RFC 9180, 4)

-- suite_id of the KEM, whose number is 0x0020 (RFC 9180, 4.1 and 7.1)
unfoldable pub kem_suite_id : List ℕ
kem_suite_id = codes "KEM" ++ to_be_bytes w16 0x0020

-- suite_id of HPKE: the numbers of the KEM, the KDF and the AEAD (RFC 9180, 5.1 and 7)
unfoldable pub hpke_suite_id : List ℕ
hpke_suite_id = codes "HPKE" ++ to_be_bytes w16 0x0020 ++ to_be_bytes w16 0x0001 ++ to_be_bytes w16 0x0001

-- LabeledExtract(salt, label, ikm) under a suite_id (RFC 9180, 4)
unfoldable pub labeled_extract : List ℕ → List ℕ → List ℕ → List ℕ → List ℕ
labeled_extract suite_id salt label ikm = extract salt (codes "HPKE-v1" ++ suite_id ++ label ++ ikm)

-- LabeledExpand(prk, label, info, L) under a suite_id (RFC 9180, 4)
unfoldable pub labeled_expand : List ℕ → List ℕ → List ℕ → List ℕ → ℕ → List ℕ
labeled_expand suite_id prk label info n =
    expand prk (to_be_bytes w16 n ++ codes "HPKE-v1" ++ suite_id ++ label ++ info) n

-- ---- the KEM

-- DH(skX, pkY) (RFC 9180, 4.1 and 7.1)
unfoldable pub dh : List ℕ → List ℕ → List ℕ
dh sk pk = x25519_bytes sk pk

-- pk(skX) (RFC 9180, 4.1 and 7.1)
unfoldable pub public : List ℕ → List ℕ
public sk = x25519_bytes sk nine_bytes

-- ExtractAndExpand(dh, kem_context) (RFC 9180, 4.1)
unfoldable pub extract_and_expand : List ℕ → List ℕ → List ℕ
extract_and_expand dh kem_context =
    labeled_expand kem_suite_id (labeled_extract kem_suite_id [] (codes "eae_prk") dh)
    (codes "shared_secret") kem_context 32

-- the private key of DeriveKeyPair(ikm), for X25519; the other key is its public one (RFC 9180, 7.1.3)
unfoldable pub derive : List ℕ → List ℕ
derive ikm = labeled_expand kem_suite_id (labeled_extract kem_suite_id [] (codes "dkp_prk") ikm) (codes "sk") [] 32

-- the all-zero value (RFC 9180, 7.1.4)
unfoldable pub is_zero : List ℕ → Bool
is_zero bytes = bytes_eq bytes (replicate 32 0)

-- eight times a public key; the all-zero value where the key is of low order (RFC 7748, 6.1)
unfoldable pub eight_times : List ℕ → List ℕ
eight_times pk = clear_cofactor_bytes pk

-- A public key is fit where it has 32 bytes, and eight times it isn't 0.
-- RFC 9180 (7.1.4) asks the sender for another test: that DH(skE, pkR) isn't the all-zero value. A clamped scalar is a
-- multiple of 8, so it brings an unfit key to that value. That it brings no fit key there rests on the numbers of points
-- of the curve and its twist, and isn't proved here, except for keys that are `public sk`.
unfoldable pub is_fit : List ℕ → Bool
is_fit pk = (if nat_eq (length pk) 32 then not (is_zero (eight_times pk)) else false)

-- the shared secret of Encap(pkR), with the ephemeral key pair DeriveKeyPair(ikm) (RFC 9180, 4.1)
unfoldable pub encap : List ℕ → List ℕ → List ℕ
encap pk ikm = extract_and_expand (dh (derive ikm) pk) (public (derive ikm) ++ pk)

-- the encapsulated key enc of Encap (RFC 9180, 4.1)
unfoldable pub encapsulated_key : List ℕ → List ℕ
encapsulated_key ikm = public (derive ikm)

-- the shared secret of Decap(enc, skR) (RFC 9180, 4.1)
unfoldable pub decap : List ℕ → List ℕ → List ℕ
decap enc sk = extract_and_expand (dh sk enc) (enc ++ public sk)

-- ---- KeySchedule: mode_base is 0, and psk and psk_id are empty (RFC 9180, 5.1)

-- key_schedule_context (RFC 9180, 5.1)
unfoldable pub key_schedule_context : List ℕ → List ℕ
key_schedule_context info =
    0 ∷ [] ++ labeled_extract hpke_suite_id [] (codes "psk_id_hash") []
    ++ labeled_extract hpke_suite_id [] (codes "info_hash") info

-- secret (RFC 9180, 5.1)
unfoldable pub secret : List ℕ → List ℕ
secret shared_secret = labeled_extract hpke_suite_id shared_secret (codes "secret") []

-- key (RFC 9180, 5.1)
unfoldable pub key : List ℕ → List ℕ → List ℕ
key shared_secret info =
    labeled_expand hpke_suite_id (secret shared_secret) (codes "key") (key_schedule_context info) 16

-- base_nonce, which is the nonce of the first message, whose sequence number is 0 (RFC 9180, 5.1 and 5.2)
unfoldable pub base_nonce : List ℕ → List ℕ → List ℕ
base_nonce shared_secret info =
    labeled_expand hpke_suite_id (secret shared_secret) (codes "base_nonce") (key_schedule_context info) 12

-- ---- one shot

-- ContextS.Seal(aad, pt) of the first message (RFC 9180, 5.2)
unfoldable pub context_seal : List ℕ → List ℕ → List ℕ → List ℕ → List ℕ
context_seal shared_secret info aad pt = gcm_ae (key shared_secret info) (base_nonce shared_secret info) aad pt

-- ContextR.Open(aad, ct) of the first message (RFC 9180, 5.2)
unfoldable pub context_open : List ℕ → List ℕ → List ℕ → List ℕ → Option (List ℕ)
context_open shared_secret info aad ct = gcm_ad (key shared_secret info) (base_nonce shared_secret info) aad ct

-- SealBase(pkR, info, aad, pt): enc and ct, with the ephemeral key pair of ikm (RFC 9180, 6.1)
unfoldable pub seal_base : List ℕ → List ℕ → List ℕ → List ℕ → List ℕ → Option (List ℕ × List ℕ)
seal_base pk info aad pt ikm =
    (if is_fit pk then Some (encapsulated_key ikm, context_seal (encap pk ikm) info aad pt) else None)

-- OpenBase(enc, skR, info, aad, ct); an encapsulated key of another length (RFC 9180, 7.1.1) and the all-zero value
-- (7.1.4) are refused (RFC 9180, 6.1)
unfoldable pub open_base : List ℕ → List ℕ → List ℕ → List ℕ → List ℕ → Option (List ℕ)
open_base enc sk info aad ct =
    (if nat_eq (length enc) 32
    then (if is_zero (dh sk enc) then None else context_open (decap enc sk) info aad ct)
    else None)
