-- What the labelled calls answer (RFC 9420, 5.1.2 and 5.1.3), if memory suffices.
use Rattle.std.specs.Prelude.{◌≡◌, ℕ, Bool, List, Option, Result, IfOk}
use Rattle.std.specs.Global.{Vec}
use Rattle.mls_suite.specs.declared.Sealed.{Sealed}
use Rattle.mls_suite.specs.Crypto.{Crypto}
use Rattle.mls_suite.specs.Labels.{verify_with_label, encrypt_with_label, decrypt_with_label}
use Rattle.mls_suite.specs.Sealings.{SealsTo, OpensTo}

-- VerifyWithLabel: public key, label, content, signature (RFC 9420, 5.1.2)
abbrev pub VerifiesWithLabel : {E : Type 0} → Crypto → List ℕ → List ℕ → List ℕ → List ℕ → Result Bool E → Type 0
VerifiesWithLabel c pk label content signature result = IfOk result (λ b. b ≡ verify_with_label c pk label content signature)

-- EncryptWithLabel: public key, label, context, plaintext, randomness (RFC 9420, 5.1.3)
abbrev pub EncryptsWithLabel : {E : Type 0} → Crypto → List ℕ → List ℕ → List ℕ → List ℕ → List ℕ → Result (Option Sealed) E → Type 0
EncryptsWithLabel c pk label context pt rnd result = SealsTo (encrypt_with_label c pk label context pt rnd) result

-- DecryptWithLabel: private key, label, context, encapsulated key, ciphertext (RFC 9420, 5.1.3)
abbrev pub DecryptsWithLabel : {E : Type 0} → Crypto → List ℕ → List ℕ → List ℕ → List ℕ → List ℕ → Result (Option (Vec ℕ)) E → Type 0
DecryptsWithLabel c sk label context kem ct result = OpensTo (decrypt_with_label c sk label context kem ct) result
