-- GCM with AES-128, nonces of 96 bits and tags of 128 (SP 800-38D), on lists of bytes.
use Rattle.std.specs.Prelude.{ℕ, zero, suc, ◌+◌, ◌-◌, ◌*◌, ◌/◌, ◌%◌, ◌^◌, List, [], ◌∷◌, ◌++◌, length, take, drop, replicate, bit_xor, nat_lt, if◌then◌else◌, Option, Some, None}
use Rattle.std.specs.Int.{w32, w64, w128, to_be_bytes, from_be_bytes, div_ceil}
use Rattle.std.specs.Str.{bytes_eq}
use Rattle.aes128gcm.specs.Aes.{xor_with, cipher}

-- ---- GCTR

-- inc_32: the last four bytes count up by one, modulo 2^32 (SP 800-38D, 6.2)
unfoldable pub inc32 : List ℕ → List ℕ
inc32 block = take 12 block ++ to_be_bytes w32 ((from_be_bytes w32 (drop 12 block) + 1) % 2 ^ 32)

-- the counter block i places behind the initial one (SP 800-38D, 6.5)
unfoldable pub counter_block : List ℕ → ℕ → List ℕ
counter_block icb zero = icb
counter_block icb (suc i) = inc32 (counter_block icb i)

-- the cipher of the first n counter blocks (SP 800-38D, 6.5)
unfoldable pub key_stream : List ℕ → List ℕ → ℕ → List ℕ
key_stream key icb zero = []
key_stream key icb (suc i) = key_stream key icb i ++ cipher key (counter_block icb i)

-- GCTR (SP 800-38D, 6.5)
unfoldable pub gctr : List ℕ → List ℕ → List ℕ → List ℕ
gctr key icb text = xor_with text (key_stream key icb (div_ceil (length text) 16))

-- ---- the product of blocks; a block is a number whose highest bit is the standard's bit 0

-- the product with x, modulo 1 + x + x^2 + x^7 + x^128 (SP 800-38D, 6.3)
unfoldable pub times_x : ℕ → ℕ
times_x v = bit_xor (v / 2) (v % 2 * 0xE1000000000000000000000000000000)

-- V_i (SP 800-38D, 6.3)
unfoldable pub multiple : ℕ → ℕ → ℕ
multiple y zero = y
multiple y (suc i) = times_x (multiple y i)

-- Z_i (SP 800-38D, 6.3)
unfoldable pub multiples_sum : ℕ → ℕ → ℕ → ℕ
multiples_sum x y zero = 0
multiples_sum x y (suc i) = bit_xor (multiples_sum x y i) (x / 2 ^ (127 - i) % 2 * multiple y i)

-- x • y (SP 800-38D, 6.3)
unfoldable pub product : ℕ → ℕ → ℕ
product x y = multiples_sum x y 128

-- ---- GHASH

-- block i of a text of whole blocks, as a number (SP 800-38D, 6.4)
unfoldable pub block : List ℕ → ℕ → ℕ
block text i = from_be_bytes w128 (take 16 (drop (16 * i) text))

-- Y_n of a text, from Y_0 (SP 800-38D, 6.4)
unfoldable pub absorb : ℕ → ℕ → List ℕ → ℕ → ℕ
absorb h from text zero = from
absorb h from text (suc i) = product (bit_xor (absorb h from text i) (block text i)) h

-- GHASH of a text of whole blocks (SP 800-38D, 6.4)
unfoldable pub ghash : ℕ → List ℕ → ℕ
ghash h text = absorb h 0 text (length text / 16)

-- a text and as many zeros as make its last block whole (SP 800-38D, 7.1, steps 4 and 5)
unfoldable pub pad : List ℕ → List ℕ
pad text = text ++ replicate (16 * div_ceil (length text) 16 - length text) 0

-- a length in bits, in eight bytes (SP 800-38D, 7.1, step 5)
unfoldable pub bit_length : List ℕ → List ℕ
bit_length text = to_be_bytes w64 (length text * 8 % 2 ^ 64)

-- what is hashed: additional data, ciphertext and their lengths (SP 800-38D, 7.1, step 5)
unfoldable pub hash_input : List ℕ → List ℕ → List ℕ
hash_input aad ct = pad aad ++ pad ct ++ bit_length aad ++ bit_length ct

-- ---- sealing

-- J_0 (SP 800-38D, 7.1, step 2)
unfoldable pub first_block : List ℕ → List ℕ
first_block nonce = nonce ++ 0 ∷ 0 ∷ 0 ∷ 1 ∷ []

-- the hash subkey H (SP 800-38D, 7.1, step 1)
unfoldable pub hash_key : List ℕ → ℕ
hash_key key = from_be_bytes w128 (cipher key (replicate 16 0))

-- the tag T of a ciphertext (SP 800-38D, 7.1, step 6)
unfoldable pub tag : List ℕ → List ℕ → List ℕ → List ℕ → List ℕ
tag key nonce aad ct = gctr key (first_block nonce) (to_be_bytes w128 (ghash (hash_key key) (hash_input aad ct)))

-- the ciphertext C of a text, or the text of a ciphertext (SP 800-38D, 7.1, step 3, and 7.2, step 4)
unfoldable pub crypt : List ℕ → List ℕ → List ℕ → List ℕ
crypt key nonce text = gctr key (inc32 (first_block nonce)) text

-- GCM-AE: the ciphertext and its tag (SP 800-38D, 7.1; RFC 5116, 5.1). It is defined for texts of every length; callers
-- keep them below 2^36 - 31 bytes, and additional data below 2^61, as the standard asks (SP 800-38D, 5.2.1.1).
unfoldable pub gcm_ae : List ℕ → List ℕ → List ℕ → List ℕ → List ℕ
gcm_ae key nonce aad pt = crypt key nonce pt ++ tag key nonce aad (crypt key nonce pt)

-- GCM-AD of a ciphertext with its tag behind it, or None (SP 800-38D, 7.2; RFC 5116, 5.1)
unfoldable pub gcm_ad : List ℕ → List ℕ → List ℕ → List ℕ → Option (List ℕ)
gcm_ad key nonce aad sealed =
    let ct = take (length sealed - 16) sealed in
    let sent = drop (length sealed - 16) sealed in
    (if nat_lt (length sealed) 16 then None
    else if bytes_eq (tag key nonce aad ct) sent then Some (crypt key nonce ct) else None)
