-- Lists of four, and round keys.
use Rattle.std.proofs.Common.{◌≡◌, ℕ, List, [], ◌∷◌, ◌++◌, length, get_or, refl, arith}
use Rattle.std.proofs.Common.{subst}
use Rattle.std.specs.Prelude.{bit_xor}
use Rattle.std.specs.Int.Bits.{xor_zero_r}
use Rattle.aes128gcm.specs.Aes.{s_box, sub_bytes, sub_word, rot_word, rcon, round_constant, temp, xor_with}

four : (xs : List ℕ) → length xs ≡ 4 → get_or xs 0 0 ∷ get_or xs 1 0 ∷ get_or xs 2 0 ∷ get_or xs 3 0 ∷ [] ≡ xs
four [] e = absurd (omega arith)
four (a ∷ []) e = absurd (omega arith)
four (a ∷ b ∷ []) e = absurd (omega arith)
four (a ∷ b ∷ c ∷ []) e = absurd (omega arith)
four (a ∷ b ∷ c ∷ d ∷ []) e = refl
four (a ∷ b ∷ c ∷ d ∷ x ∷ xs) e = absurd (omega arith)

abbrev heads : List ℕ → List ℕ
heads xs = get_or xs 0 0 ∷ get_or xs 1 0 ∷ get_or xs 2 0 ∷ get_or xs 3 0 ∷ []

glue : (w x y z a b c d : List ℕ) → w ≡ a → x ≡ b → y ≡ c → z ≡ d → w ++ x ++ y ++ z ≡ a ++ b ++ c ++ d
glue w x y z a b c d p q r s = cc

pub sixteen : (a b c d : List ℕ) → length a ≡ 4 → length b ≡ 4 → length c ≡ 4 → length d ≡ 4
    → get_or a 0 0 ∷ get_or a 1 0 ∷ get_or a 2 0 ∷ get_or a 3 0 ∷ get_or b 0 0 ∷ get_or b 1 0 ∷ get_or b 2 0 ∷ get_or b 3 0
    ∷ get_or c 0 0 ∷ get_or c 1 0 ∷ get_or c 2 0 ∷ get_or c 3 0 ∷ get_or d 0 0 ∷ get_or d 1 0 ∷ get_or d 2 0 ∷ get_or d 3 0 ∷ [] ≡ a ++ b ++ c ++ d
sixteen a b c d ea eb ec ed =
    glue (heads a) (heads b) (heads c) (heads d) a b c d (four a ea) (four b eb) (four c ec) (four d ed)

-- a block by its bytes
pub bytes_of : (k : List ℕ) → length k ≡ 16 → get_or k 0 0 ∷ get_or k 1 0 ∷ get_or k 2 0 ∷ get_or k 3 0 ∷ get_or k 4 0 ∷ get_or k 5 0 ∷ get_or k 6 0 ∷ get_or k 7 0 ∷ get_or k 8 0 ∷ get_or k 9 0 ∷ get_or k 10 0 ∷ get_or k 11 0 ∷ get_or k 12 0 ∷ get_or k 13 0 ∷ get_or k 14 0 ∷ get_or k 15 0 ∷ [] ≡ k
bytes_of ([]) e = absurd (omega arith)
bytes_of (x0 ∷ []) e = absurd (omega arith)
bytes_of (x0 ∷ x1 ∷ []) e = absurd (omega arith)
bytes_of (x0 ∷ x1 ∷ x2 ∷ []) e = absurd (omega arith)
bytes_of (x0 ∷ x1 ∷ x2 ∷ x3 ∷ []) e = absurd (omega arith)
bytes_of (x0 ∷ x1 ∷ x2 ∷ x3 ∷ x4 ∷ []) e = absurd (omega arith)
bytes_of (x0 ∷ x1 ∷ x2 ∷ x3 ∷ x4 ∷ x5 ∷ []) e = absurd (omega arith)
bytes_of (x0 ∷ x1 ∷ x2 ∷ x3 ∷ x4 ∷ x5 ∷ x6 ∷ []) e = absurd (omega arith)
bytes_of (x0 ∷ x1 ∷ x2 ∷ x3 ∷ x4 ∷ x5 ∷ x6 ∷ x7 ∷ []) e = absurd (omega arith)
bytes_of (x0 ∷ x1 ∷ x2 ∷ x3 ∷ x4 ∷ x5 ∷ x6 ∷ x7 ∷ x8 ∷ []) e = absurd (omega arith)
bytes_of (x0 ∷ x1 ∷ x2 ∷ x3 ∷ x4 ∷ x5 ∷ x6 ∷ x7 ∷ x8 ∷ x9 ∷ []) e = absurd (omega arith)
bytes_of (x0 ∷ x1 ∷ x2 ∷ x3 ∷ x4 ∷ x5 ∷ x6 ∷ x7 ∷ x8 ∷ x9 ∷ x10 ∷ []) e = absurd (omega arith)
bytes_of (x0 ∷ x1 ∷ x2 ∷ x3 ∷ x4 ∷ x5 ∷ x6 ∷ x7 ∷ x8 ∷ x9 ∷ x10 ∷ x11 ∷ []) e = absurd (omega arith)
bytes_of (x0 ∷ x1 ∷ x2 ∷ x3 ∷ x4 ∷ x5 ∷ x6 ∷ x7 ∷ x8 ∷ x9 ∷ x10 ∷ x11 ∷ x12 ∷ []) e = absurd (omega arith)
bytes_of (x0 ∷ x1 ∷ x2 ∷ x3 ∷ x4 ∷ x5 ∷ x6 ∷ x7 ∷ x8 ∷ x9 ∷ x10 ∷ x11 ∷ x12 ∷ x13 ∷ []) e = absurd (omega arith)
bytes_of (x0 ∷ x1 ∷ x2 ∷ x3 ∷ x4 ∷ x5 ∷ x6 ∷ x7 ∷ x8 ∷ x9 ∷ x10 ∷ x11 ∷ x12 ∷ x13 ∷ x14 ∷ []) e = absurd (omega arith)
bytes_of (x0 ∷ x1 ∷ x2 ∷ x3 ∷ x4 ∷ x5 ∷ x6 ∷ x7 ∷ x8 ∷ x9 ∷ x10 ∷ x11 ∷ x12 ∷ x13 ∷ x14 ∷ x15 ∷ []) e = refl
bytes_of (x0 ∷ x1 ∷ x2 ∷ x3 ∷ x4 ∷ x5 ∷ x6 ∷ x7 ∷ x8 ∷ x9 ∷ x10 ∷ x11 ∷ x12 ∷ x13 ∷ x14 ∷ x15 ∷ x16 ∷ k) e = absurd (omega arith)

zeros_added : (a b c d r : ℕ) → bit_xor a r ∷ b ∷ c ∷ d ∷ [] ≡ xor_with (a ∷ b ∷ c ∷ d ∷ []) (r ∷ 0 ∷ 0 ∷ 0 ∷ [])
zeros_added a b c d r = rw (xor_zero_r b, xor_zero_r c, xor_zero_r d) refl

abbrev last : List ℕ → ℕ → List ℕ
last k r = bit_xor (get_or (sub_bytes k) 13 0) r ∷ get_or (sub_bytes k) 14 0 ∷ get_or (sub_bytes k) 15 0 ∷ get_or (sub_bytes k) 12 0 ∷ []

last_of : (x0 x1 x2 x3 x4 x5 x6 x7 x8 x9 x10 x11 x12 x13 x14 x15 i : ℕ) → last (x0 ∷ x1 ∷ x2 ∷ x3 ∷ x4 ∷ x5 ∷ x6 ∷ x7 ∷ x8 ∷ x9 ∷ x10 ∷ x11 ∷ x12 ∷ x13 ∷ x14 ∷ x15 ∷ []) (round_constant i) ≡ temp (x0 ∷ x1 ∷ x2 ∷ x3 ∷ x4 ∷ x5 ∷ x6 ∷ x7 ∷ x8 ∷ x9 ∷ x10 ∷ x11 ∷ x12 ∷ x13 ∷ x14 ∷ x15 ∷ []) i
unfolding temp sub_bytes sub_word rot_word rcon
last_of x0 x1 x2 x3 x4 x5 x6 x7 x8 x9 x10 x11 x12 x13 x14 x15 i = zeros_added (s_box x13) (s_box x14) (s_box x15) (s_box x12) (round_constant i)

-- the word temp, from a block behind SUBBYTES
pub temp_of : (k s : List ℕ) (r i : ℕ) → length k ≡ 16 → s ≡ sub_bytes k → r ≡ round_constant i
    → bit_xor (get_or s 13 0) r ∷ get_or s 14 0 ∷ get_or s 15 0 ∷ get_or s 12 0 ∷ [] ≡ temp k i
temp_of k s r i long e f =
    rw (e, f) (subst (λ z. last z (round_constant i) ≡ temp z i) (bytes_of k long) (last_of (get_or k 0 0) (get_or k 1 0) (get_or k 2 0) (get_or k 3 0) (get_or k 4 0) (get_or k 5 0) (get_or k 6 0) (get_or k 7 0) (get_or k 8 0) (get_or k 9 0) (get_or k 10 0) (get_or k 11 0) (get_or k 12 0) (get_or k 13 0) (get_or k 14 0) (get_or k 15 0) i))
