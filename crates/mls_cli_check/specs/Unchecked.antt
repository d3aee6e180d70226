-- A suite that checks nothing: every key is fit and empty, every signature holds, and what is sealed lies open.
use Rattle.std.specs.Prelude.{◌≡◌, ℕ, true, List, [], replicate, Some, refl}
use Rattle.std.proofs.Common.{arith, lit<}
use Rattle.mls_suite.specs.Crypto.{Crypto, Lawful, Sealing}

abbrev pub open_sealing : List ℕ → Sealing
open_sealing pt = record { kem = []; ct = pt }

-- under the number of the suite whose own cryptography the program doesn't have
abbrev pub unchecked : Crypto
unchecked = record {
  number = 1;
  public = λ sk. [];
  key_ok = λ pk. true;
  derive = λ ikm. replicate 32 0;
  seal = λ pk info pt rnd. Some (open_sealing pt);
  unseal = λ sk kem info ct. Some ct;
  sig_public = λ sk. [];
  sign = λ sk m. [];
  verify = λ pk m s. true;
  aead_seal = λ key nonce aad pt. pt;
  aead_open = λ key nonce aad ct. Some ct;
}

opened : (sk info pt rnd : List ℕ) (s : Sealing) → Some (open_sealing pt) ≡ Some s
    → Some s.ct ≡ Some pt
opened sk info pt rnd s e = (let same : open_sealing pt ≡ s = cc in rw (← same) refl)

pub unchecked_lawful : Lawful unchecked
unchecked_lawful = record {
  unseals = opened;
  verifies = λ sk m. refl;
  opens = λ key nonce aad pt. refl;
  public_ok = λ sk. refl;
  seals = λ pk info pt rnd. refl;
  number_short = lit< tt;
  public_short = λ sk. omega arith;
  sig_public_short = λ sk. omega arith;
  sign_short = λ sk m. omega arith;
}
