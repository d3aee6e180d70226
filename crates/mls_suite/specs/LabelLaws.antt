-- What the laws of a suite say of the labelled calls.
use Rattle.std.specs.Prelude.{◌≡◌, ℕ, ◌<◌, ◌^◌, List, length, Some, true, is_some}
use Rattle.mls_suite.specs.Crypto.{Crypto, Sealing}
use Rattle.mls_suite.specs.Labels.{sign_with_label, verify_with_label, encrypt_with_label, decrypt_with_label}

-- what was signed verifies
abbrev pub VerifiesSigned : Crypto → Type 0
VerifiesSigned c = (sk label content : List ℕ) → verify_with_label c (c.sig_public sk) label content (sign_with_label c sk label content) ≡ true

-- what was sealed to a public key is opened by its private key
abbrev pub OpensSealed : Crypto → Type 0
OpensSealed c = (sk label context pt rnd : List ℕ) (s : Sealing)
    → encrypt_with_label c (c.public sk) label context pt rnd ≡ Some s
    → decrypt_with_label c sk label context s.kem s.ct ≡ Some pt

-- a key takes a sealing exactly where it is fit, and a public key is fit
pub record SealsWhereFit (c : Crypto) : Type 0 where
  pub exactly : (pk label context pt rnd : List ℕ) → is_some (encrypt_with_label c pk label context pt rnd) ≡ c.key_ok pk
  pub public : (sk label context pt rnd : List ℕ) → is_some (encrypt_with_label c (c.public sk) label context pt rnd) ≡ true

-- a signature is short
abbrev pub SignsShort : Crypto → Type 0
SignsShort c = (sk label content : List ℕ) → length (sign_with_label c sk label content) < 2 ^ 16
