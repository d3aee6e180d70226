-- Words made of masks and shifts alone, over words or over where each bit comes from.
use Rattle.std.specs.Prelude.{ℕ, ◌*◌, ◌/◌, ◌%◌, ◌^◌, List, [], ◌∷◌, bit_or, bit_and, slice_index}

unfoldable pub masked : ℕ → ℕ → ℕ
masked m x = bit_and x m

unfoldable pub up : ℕ → ℕ → ℕ
up k x = x * 2 ^ k % 2 ^ 64

unfoldable pub down : ℕ → ℕ → ℕ
down k x = x / 2 ^ k

-- bit i from bit i + 16, around
unfoldable pub rotation_16 : {A : Type 0} → (A → A → A) → (ℕ → A → A) → (ℕ → A → A) → (ℕ → A → A) → A → A
rotation_16 or and up down x = or (down 16 (and 0xFFFFFFFFFFFF0000 x)) (up 48 (and 0x000000000000FFFF x))

-- bit i from bit i + 32, around
unfoldable pub rotation_32 : {A : Type 0} → (A → A → A) → (ℕ → A → A) → (ℕ → A → A) → (ℕ → A → A) → A → A
rotation_32 or and up down x = or (down 32 (and 0xFFFFFFFF00000000 x)) (up 32 (and 0x00000000FFFFFFFF x))

-- each row turned by its number
unfoldable pub row_shift : {A : Type 0} → (A → A → A) → (ℕ → A → A) → (ℕ → A → A) → (ℕ → A → A) → A → A
row_shift or and up down x =
    or (or (or (or (or (or (and 0x000000000000FFFF x)
    (down 4 (and 0x00000000FFF00000 x))) (up 12 (and 0x00000000000F0000 x)))
    (down 8 (and 0x0000FF0000000000 x))) (up 8 (and 0x000000FF00000000 x)))
    (down 12 (and 0xF000000000000000 x))) (up 4 (and 0x0FFF000000000000 x))

-- eight words of eight bytes, each of whose bytes m form a square of bits, which is turned over
unfoldable pub transposition : {A : Type 0} → (A → A → A) → (ℕ → A → A) → (ℕ → A → A) → (ℕ → A → A)
    → A → A → A → A → A → A → A → A → List A
transposition or and up down a0 b0 c0 d0 e0 f0 g0 h0 =
    let a1 = or (and 0x5555555555555555 a0) (up 1 (and 0x5555555555555555 b0)) in
    let b1 = or (down 1 (and 0xAAAAAAAAAAAAAAAA a0)) (and 0xAAAAAAAAAAAAAAAA b0) in
    let c1 = or (and 0x5555555555555555 c0) (up 1 (and 0x5555555555555555 d0)) in
    let d1 = or (down 1 (and 0xAAAAAAAAAAAAAAAA c0)) (and 0xAAAAAAAAAAAAAAAA d0) in
    let e1 = or (and 0x5555555555555555 e0) (up 1 (and 0x5555555555555555 f0)) in
    let f1 = or (down 1 (and 0xAAAAAAAAAAAAAAAA e0)) (and 0xAAAAAAAAAAAAAAAA f0) in
    let g1 = or (and 0x5555555555555555 g0) (up 1 (and 0x5555555555555555 h0)) in
    let h1 = or (down 1 (and 0xAAAAAAAAAAAAAAAA g0)) (and 0xAAAAAAAAAAAAAAAA h0) in
    let a2 = or (and 0x3333333333333333 a1) (up 2 (and 0x3333333333333333 c1)) in
    let c2 = or (down 2 (and 0xCCCCCCCCCCCCCCCC a1)) (and 0xCCCCCCCCCCCCCCCC c1) in
    let b2 = or (and 0x3333333333333333 b1) (up 2 (and 0x3333333333333333 d1)) in
    let d2 = or (down 2 (and 0xCCCCCCCCCCCCCCCC b1)) (and 0xCCCCCCCCCCCCCCCC d1) in
    let e2 = or (and 0x3333333333333333 e1) (up 2 (and 0x3333333333333333 g1)) in
    let g2 = or (down 2 (and 0xCCCCCCCCCCCCCCCC e1)) (and 0xCCCCCCCCCCCCCCCC g1) in
    let f2 = or (and 0x3333333333333333 f1) (up 2 (and 0x3333333333333333 h1)) in
    let h2 = or (down 2 (and 0xCCCCCCCCCCCCCCCC f1)) (and 0xCCCCCCCCCCCCCCCC h1) in
    let a3 = or (and 0x0F0F0F0F0F0F0F0F a2) (up 4 (and 0x0F0F0F0F0F0F0F0F e2)) in
    let e3 = or (down 4 (and 0xF0F0F0F0F0F0F0F0 a2)) (and 0xF0F0F0F0F0F0F0F0 e2) in
    let b3 = or (and 0x0F0F0F0F0F0F0F0F b2) (up 4 (and 0x0F0F0F0F0F0F0F0F f2)) in
    let f3 = or (down 4 (and 0xF0F0F0F0F0F0F0F0 b2)) (and 0xF0F0F0F0F0F0F0F0 f2) in
    let c3 = or (and 0x0F0F0F0F0F0F0F0F c2) (up 4 (and 0x0F0F0F0F0F0F0F0F g2)) in
    let g3 = or (down 4 (and 0xF0F0F0F0F0F0F0F0 c2)) (and 0xF0F0F0F0F0F0F0F0 g2) in
    let d3 = or (and 0x0F0F0F0F0F0F0F0F d2) (up 4 (and 0x0F0F0F0F0F0F0F0F h2)) in
    let h3 = or (down 4 (and 0xF0F0F0F0F0F0F0F0 d2)) (and 0xF0F0F0F0F0F0F0F0 h2) in
    a3 ∷ b3 ∷ c3 ∷ d3 ∷ e3 ∷ f3 ∷ g3 ∷ h3 ∷ []

unfoldable pub rotate_16 : ℕ → ℕ
rotate_16 x = rotation_16 bit_or masked up down x

unfoldable pub rotate_32 : ℕ → ℕ
rotate_32 x = rotation_32 bit_or masked up down x

unfoldable pub shift_rows_word : ℕ → ℕ
shift_rows_word x = row_shift bit_or masked up down x

unfoldable pub transpose_words : List ℕ → List ℕ
transpose_words q =
    transposition bit_or masked up down
    (slice_index q 0) (slice_index q 1) (slice_index q 2) (slice_index q 3)
    (slice_index q 4) (slice_index q 5) (slice_index q 6) (slice_index q 7)
