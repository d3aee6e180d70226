-- The key of sender data and the nonce of a content (RFC 9420, 6.3.1 and 6.3.2).
use Rattle.std.specs.Prelude.{ℕ, List, [], ◌∷◌, take, bit_xor, codes}
use Rattle.std.specs.Int.{w32, to_be_bytes}
use Rattle.mls_kdf.specs.Kdf.{expand_with_label}

-- ciphertext_sample (RFC 9420, 6.3.2): the first KDF.Nh bytes of the ciphertext, or all where it is shorter
unfoldable pub ciphertext_sample : List ℕ → List ℕ
ciphertext_sample ciphertext = take 32 ciphertext

-- sender_data_key (RFC 9420, 6.3.2): from the sender data secret and the ciphertext; AEAD.Nk is 16 bytes
unfoldable pub sender_data_key : List ℕ → List ℕ → List ℕ
sender_data_key secret ciphertext =
    expand_with_label secret (codes "key") (ciphertext_sample ciphertext) 16

-- sender_data_nonce (RFC 9420, 6.3.2): from the sender data secret and the ciphertext; AEAD.Nn is 12 bytes
unfoldable pub sender_data_nonce : List ℕ → List ℕ → List ℕ
sender_data_nonce secret ciphertext =
    expand_with_label secret (codes "nonce") (ciphertext_sample ciphertext) 12

-- each byte of the first combined by exclusive or with the byte of the second at its place, if there is one
abbrev pub xor_front : List ℕ → List ℕ → List ℕ
xor_front [] s = []
xor_front (x ∷ xs) [] = x ∷ xs
xor_front (x ∷ xs) (y ∷ ys) = bit_xor x y ∷ xor_front xs ys

-- the nonce of a content (RFC 9420, 6.3.1): the first four bytes of a ratchet's nonce by exclusive or with the reuse
-- guard
unfoldable pub guarded_nonce : List ℕ → ℕ → List ℕ
guarded_nonce nonce reuse_guard = xor_front nonce (to_be_bytes w32 reuse_guard)
