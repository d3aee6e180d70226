-- The labelled calls of RFC 9420 (5.1.2 and 5.1.3), as functions on lists of bytes.
use Rattle.std.specs.Prelude.{ℕ, Bool, List, ◌++◌, Option}
use Rattle.mls_wire.specs.Reading.{opaque}
use Rattle.mls_kdf.specs.Kdf.{mls_label}
use Rattle.mls_suite.specs.Crypto.{Crypto, Sealing}

-- SignContent (RFC 9420, 5.1.2), and EncryptContext (5.1.3): label, content
unfoldable pub content_with_label : List ℕ → List ℕ → List ℕ
content_with_label label content = opaque (mls_label label) ++ opaque content

-- SignWithLabel: signature key, label, content (RFC 9420, 5.1.2)
unfoldable pub sign_with_label : Crypto → List ℕ → List ℕ → List ℕ → List ℕ
sign_with_label c sk label content = c.sign sk (content_with_label label content)

-- VerifyWithLabel: public key, label, content, signature (RFC 9420, 5.1.2)
unfoldable pub verify_with_label : Crypto → List ℕ → List ℕ → List ℕ → List ℕ → Bool
verify_with_label c pk label content signature = c.verify pk (content_with_label label content) signature

-- EncryptWithLabel: public key, label, context, plaintext, randomness (RFC 9420, 5.1.3)
unfoldable pub encrypt_with_label : Crypto → List ℕ → List ℕ → List ℕ → List ℕ → List ℕ → Option Sealing
encrypt_with_label c pk label context pt rnd = c.seal pk (content_with_label label context) pt rnd

-- DecryptWithLabel: private key, label, context, encapsulated key, ciphertext (RFC 9420, 5.1.3)
unfoldable pub decrypt_with_label : Crypto → List ℕ → List ℕ → List ℕ → List ℕ → List ℕ → Option (List ℕ)
decrypt_with_label c sk label context kem ct = c.unseal sk kem (content_with_label label context) ct
