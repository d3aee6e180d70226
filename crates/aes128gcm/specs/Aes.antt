-- AES-128 on lists of bytes (FIPS 197). Bit i of a byte is the coefficient of x^i; a state or a key is 16 bytes, column
-- by column.
use Rattle.std.specs.Prelude.{ℕ, zero, suc, ◌+◌, ◌*◌, ◌%◌, ◌/◌, List, [], ◌∷◌, ◌++◌, map, take, drop, bit_xor, slice_index}
use Rattle.std.specs.Int.{bit_at}

-- ---- bytes as polynomials over GF(2) modulo x^8 + x^4 + x^3 + x + 1 (FIPS 197, 4)

-- XTIMES: x times b (FIPS 197, 4.2)
unfoldable pub xtimes : ℕ → ℕ
xtimes b = bit_xor (b * 2 % 256) (b / 128 * 0x1B)

-- x^i times b (FIPS 197, 4.2)
unfoldable pub multiple : ℕ → ℕ → ℕ
multiple b zero = b
multiple b (suc i) = xtimes (multiple b i)

-- the sum of the multiples of b at the ones among the first n bits of c (FIPS 197, 4.2)
unfoldable pub multiples_sum : ℕ → ℕ → ℕ → ℕ
multiples_sum b c zero = 0
multiples_sum b c (suc i) = bit_xor (multiples_sum b c i) (bit_at c i * multiple b i)

-- b • c (FIPS 197, 4.2)
unfoldable pub times : ℕ → ℕ → ℕ
times b c = multiples_sum b c 8

-- the multiplicative inverse: b to the power of 254 = 2 + 4 + 8 + 16 + 32 + 64 + 128, so 0 for 0 (FIPS 197, 4.4 and
-- 5.1.1)
unfoldable pub inverse : ℕ → ℕ
inverse b =
    let b2 = times b b in
    let b4 = times b2 b2 in
    let b8 = times b4 b4 in
    let b16 = times b8 b8 in
    let b32 = times b16 b16 in
    let b64 = times b32 b32 in
    let b128 = times b64 b64 in
    times b2 (times b4 (times b8 (times b16 (times b32 (times b64 b128)))))

-- bit i of the affine transformation (FIPS 197, 5.1.1)
unfoldable pub affine_bit : ℕ → ℕ → ℕ
affine_bit b i =
    (bit_at b i + bit_at b ((i + 4) % 8) + bit_at b ((i + 5) % 8) + bit_at b ((i + 6) % 8)
    + bit_at b ((i + 7) % 8) + bit_at 0x63 i) % 2

-- the affine transformation (FIPS 197, 5.1.1)
unfoldable pub affine : ℕ → ℕ
affine b =
    affine_bit b 0 + 2 * affine_bit b 1 + 4 * affine_bit b 2 + 8 * affine_bit b 3
    + 16 * affine_bit b 4 + 32 * affine_bit b 5 + 64 * affine_bit b 6 + 128 * affine_bit b 7

-- SBOX (FIPS 197, 5.1.1)
unfoldable pub s_box : ℕ → ℕ
s_box b = affine (inverse b)

-- ---- states (FIPS 197, 3.4)

-- the byte in a row and a column (FIPS 197, 3.4)
abbrev pub at : List ℕ → ℕ → ℕ → ℕ
at s r c = slice_index s (4 * c + r)

-- the state of these bytes, each given by its row and column (FIPS 197, 3.4)
abbrev pub state : (ℕ → ℕ → ℕ) → List ℕ
state f =
    f 0 0 ∷ f 1 0 ∷ f 2 0 ∷ f 3 0
    ∷ f 0 1 ∷ f 1 1 ∷ f 2 1 ∷ f 3 1
    ∷ f 0 2 ∷ f 1 2 ∷ f 2 2 ∷ f 3 2
    ∷ f 0 3 ∷ f 1 3 ∷ f 2 3 ∷ f 3 3 ∷ []

-- SUBBYTES (FIPS 197, 5.1.1)
unfoldable pub sub_bytes : List ℕ → List ℕ
sub_bytes s = map s_box s

-- SHIFTROWS: row r moves left by r (FIPS 197, 5.1.2)
unfoldable pub shift_rows : List ℕ → List ℕ
shift_rows s = state (λ r c. at s r ((c + r) % 4))

-- {02} • a, {03} • b, c and d, added (FIPS 197, 5.1.3)
unfoldable pub mix : ℕ → ℕ → ℕ → ℕ → ℕ
mix a b c d = bit_xor (bit_xor (bit_xor (xtimes a) (bit_xor (xtimes b) b)) c) d

-- MIXCOLUMNS (FIPS 197, 5.1.3)
unfoldable pub mix_columns : List ℕ → List ℕ
mix_columns s =
    state (λ r c. mix (at s r c) (at s ((r + 1) % 4) c) (at s ((r + 2) % 4) c) (at s ((r + 3) % 4) c))

-- each byte of the first list, added to the byte of the second at its place, if there is one (FIPS 197, 4.1)
abbrev pub xor_with : List ℕ → List ℕ → List ℕ
xor_with [] ys = []
xor_with (x ∷ xs) [] = x ∷ xs
xor_with (x ∷ xs) (y ∷ ys) = bit_xor x y ∷ xor_with xs ys

-- ADDROUNDKEY (FIPS 197, 5.1.4)
unfoldable pub add_round_key : List ℕ → List ℕ → List ℕ
add_round_key s k = xor_with s k

-- ---- KEYEXPANSION (FIPS 197, 5.2)

-- ROTWORD: a word's bytes, each from the next (FIPS 197, 5.2)
unfoldable pub rot_word : List ℕ → List ℕ
rot_word w = drop 1 w ++ take 1 w

-- SUBWORD (FIPS 197, 5.2)
unfoldable pub sub_word : List ℕ → List ℕ
sub_word w = map s_box w

-- the first byte of Rcon[i + 1], x^i (FIPS 197, 5.2)
unfoldable pub round_constant : ℕ → ℕ
round_constant i = multiple 1 i

-- Rcon[i + 1] (FIPS 197, 5.2)
unfoldable pub rcon : ℕ → List ℕ
rcon i = round_constant i ∷ 0 ∷ 0 ∷ 0 ∷ []

-- word i of a round key (FIPS 197, 5.2)
abbrev pub word : List ℕ → ℕ → List ℕ
word k i = take 4 (drop (4 * i) k)

-- temp of KEYEXPANSION at a word whose number is divisible by 4: SUBWORD(ROTWORD(w[4i + 3])) and Rcon[i + 1], added
-- (FIPS 197, 5.2)
unfoldable pub temp : List ℕ → ℕ → List ℕ
temp k i = xor_with (sub_word (rot_word (word k 3))) (rcon i)

-- w[4i + 4] to w[4i + 7] from w[4i] to w[4i + 3] (FIPS 197, 5.2)
unfoldable pub next_key : List ℕ → ℕ → List ℕ
next_key k i =
    let a = xor_with (temp k i) (word k 0) in
    let b = xor_with a (word k 1) in
    let c = xor_with b (word k 2) in
    let d = xor_with c (word k 3) in
    a ++ b ++ c ++ d

-- the key of round i, w[4i] to w[4i + 3] (FIPS 197, 5.2)
unfoldable pub round_key : List ℕ → ℕ → List ℕ
round_key key zero = key
round_key key (suc i) = next_key (round_key key i) i

-- ---- CIPHER (FIPS 197, 5.1)

-- a round but the last (FIPS 197, 5.1)
unfoldable pub full_round : List ℕ → List ℕ → List ℕ
full_round s k = add_round_key (mix_columns (shift_rows (sub_bytes s))) k

-- the last round, without MIXCOLUMNS (FIPS 197, 5.1)
unfoldable pub last_round : List ℕ → List ℕ → List ℕ
last_round s k = add_round_key (shift_rows (sub_bytes s)) k

-- the state behind round i (FIPS 197, 5.1)
unfoldable pub rounds : List ℕ → List ℕ → ℕ → List ℕ
rounds key block zero = add_round_key block key
rounds key block (suc i) = full_round (rounds key block i) (round_key key (suc i))

-- CIPHER with a key of 128 bits, of 10 rounds (FIPS 197, 5.1)
unfoldable pub cipher : List ℕ → List ℕ → List ℕ
cipher key block = last_round (rounds key block 9) (round_key key 10)
