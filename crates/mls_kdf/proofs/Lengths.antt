-- How long hashes, tags and keys are.
use Rattle.std.proofs.Common.{◌≡◌, ℕ, zero, suc, ◌*◌, List, [], ◌∷◌, ◌++◌, length, arith, length-append, refl}
use Rattle.std.specs.Int.{div_ceil}
use Rattle.std.proofs.lemmas.List.{length-take}
use Rattle.mls_kdf.specs.Kdf.{extract, hkdf_block, hkdf_blocks, expand, expand_with_label, derive_secret, ref_hash}
use Rattle.mls_kdf.specs.Lengths.{length-sha256, length-hmac}

pub length-extract : (salt ikm : List ℕ) → length (extract salt ikm) ≡ 32
unfolding extract
length-extract salt ikm = length-hmac salt ikm

pub length-hkdf_blocks : (prk info : List ℕ) (n : ℕ) → length (hkdf_blocks prk info n) ≡ 32 * n
unfolding hkdf_blocks hkdf_block
length-hkdf_blocks prk info zero = refl
length-hkdf_blocks prk info (suc n) =
    omega (arith, length-append (hkdf_blocks prk info n) (hkdf_block prk info (suc n)), length-hkdf_blocks prk info n, length-hmac prk (hkdf_block prk info n ++ info ++ suc n ∷ []))

pub length-expand : (prk info : List ℕ) (n : ℕ) → length (expand prk info n) ≡ n
unfolding expand
length-expand prk info n = omega (arith, length-take n (hkdf_blocks prk info (div_ceil n 32)), length-hkdf_blocks prk info (div_ceil n 32))

pub length-expand_with_label : (secret label context : List ℕ) (n : ℕ) → length (expand_with_label secret label context n) ≡ n
unfolding expand_with_label
length-expand_with_label secret label context n = length-expand secret _ n

pub length-derive_secret : (secret label : List ℕ) → length (derive_secret secret label) ≡ 32
unfolding derive_secret
length-derive_secret secret label = length-expand_with_label secret label [] 32

pub length-ref_hash : (label value : List ℕ) → length (ref_hash label value) ≡ 32
unfolding ref_hash
length-ref_hash label value = length-sha256 _
