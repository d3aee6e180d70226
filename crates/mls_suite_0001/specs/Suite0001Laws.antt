-- The suite 0x0001 is lawful.
use Rattle.std.proofs.Common.{◌≡◌, ℕ, List, length, Some, None, refl, ◌∙◌, arith, length-append, lit<}
use Rattle.std.specs.Prelude.{Option, is_some}
use Rattle.std.specs.Option.{option_map}
use Rattle.mls_suite.specs.Crypto.{Lawful, Sealing}
use Rattle.hpke.specs.Rfc9180.{public, is_fit, seal_base}
use Rattle.hpke.proofs.HpkeLaws as hpke
use Rattle.aes128gcm.proofs.GcmLaws as gcm
use Rattle.field25519.specs.Bytes.{encode}
use Rattle.ed25519.specs.Signatures.{public_key, commitment, answer, sign}
use Rattle.ed25519.proofs.Verified as ed25519
use Rattle.mls_suite_0001.specs.Suite0001.{sealing, seal, unseal, suite_0001}

-- ---- sealing

made : (o : Option (List ℕ × List ℕ)) (s : Sealing) → option_map sealing o ≡ Some s → o ≡ Some (s.kem, s.ct)
made None s e = absurd cc
made (Some x) s e = (let same : sealing x ≡ s = cc in rw (← same) refl)

unseals : (sk info pt rnd : List ℕ) (s : Sealing) → seal (public sk) info pt rnd ≡ Some s → unseal sk s.kem info s.ct ≡ Some pt
unfolding seal unseal
unseals sk info pt rnd s e = hpke.opens_sealed sk info _ pt rnd (s.kem, s.ct) (made _ s e)

is_some_map : (o : Option (List ℕ × List ℕ)) → is_some (option_map sealing o) ≡ is_some o
is_some_map None = refl
is_some_map (Some x) = refl

seals : (pk info pt rnd : List ℕ) → is_some (seal pk info pt rnd) ≡ is_fit pk
unfolding seal
seals pk info pt rnd = is_some_map (seal_base pk info _ pt rnd) ∙ hpke.seals_where_fit pk info _ pt rnd

-- ---- lengths

length-encode : (n : ℕ) → length (encode n) ≡ 32
length-encode n = refl

length-public_key : (sk : List ℕ) → length (public_key sk) ≡ 32
length-public_key sk = refl

length-sign : (sk m : List ℕ) → length (sign sk m) ≡ 64
length-sign sk m = omega (arith, length-append (commitment sk m) (encode (answer sk m)), length-encode (answer sk m))

pub lawful : Lawful suite_0001
lawful = record {
  unseals = unseals;
  verifies = ed25519.signed;
  opens = gcm.opens_sealed;
  public_ok = hpke.public_is_fit;
  seals = seals;
  number_short = lit< tt;
  public_short = λ sk. omega (arith, hpke.public_is_short sk);
  sig_public_short = λ sk. omega (arith, length-public_key sk);
  sign_short = λ sk m. omega (arith, length-sign sk m);
}
