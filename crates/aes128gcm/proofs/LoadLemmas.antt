-- Blocks into slices and out again.
use Rattle.std.proofs.Common.{◌≡◌, ℕ, zero, suc, ◌+◌, ◌*◌, ◌<◌, ◌^◌, ◌%◌, ◌/◌, List, [], ◌∷◌, length, get_or, refl, ap, sym, ◌∙◌, arith, inl, inr, ◌⊎◌}
use Rattle.std.specs.Prelude.{slice_index}
use Rattle.std.specs.Int.{bit_at, w64, to_le_bytes}
use Rattle.std.proofs.lemmas.Bool.{cases_lt}
use Rattle.aes128gcm.specs.Lanes.{number, bits_at, lane, place, Holds, held, IsEvenWord, IsOddWord, IsTransposed}
use Rattle.aes128gcm.proofs.Words.{bytes_of}
use Rattle.aes128gcm.proofs.LaneLemmas.{eight}
use Rattle.aes128gcm.proofs.RoundLemmas.{number_of_byte, bit_of_byte}

same_number : (a0 a1 a2 a3 a4 a5 a6 a7 b0 b1 b2 b3 b4 b5 b6 b7 : ℕ) → a0 ≡ b0 → a1 ≡ b1 → a2 ≡ b2 → a3 ≡ b3 → a4 ≡ b4 → a5 ≡ b5 → a6 ≡ b6 → a7 ≡ b7 → number (a0 ∷ a1 ∷ a2 ∷ a3 ∷ a4 ∷ a5 ∷ a6 ∷ a7 ∷ []) ≡ number (b0 ∷ b1 ∷ b2 ∷ b3 ∷ b4 ∷ b5 ∷ b6 ∷ b7 ∷ [])
same_number a0 a1 a2 a3 a4 a5 a6 a7 b0 b1 b2 b3 b4 b5 b6 b7 e0 e1 e2 e3 e4 e5 e6 e7 = cc

abbrev byte_across : List ℕ → ℕ → ℕ
byte_across q i = slice_index q (i % 8) / 2 ^ (8 * (i / 8)) % 256

lane-transposed : (q r : List ℕ) → length r ≡ 8 → IsTransposed q r → (i : ℕ) → i < 64 → lane r i ≡ byte_across q i
unfolding lane
lane-transposed q r long cr i h =
    let at : (k : ℕ) → k < 8 → bit_at (get_or r k 0) i ≡ bit_at (byte_across q i) k = λ k hk. cr k i hk h ∙ bit_of_byte (slice_index q (i % 8)) (i / 8) k hk in
    ap (λ z. number (bits_at z i)) (sym (eight r long))
    ∙ same_number (bit_at (get_or r 0 0) i) (bit_at (get_or r 1 0) i) (bit_at (get_or r 2 0) i) (bit_at (get_or r 3 0) i) (bit_at (get_or r 4 0) i) (bit_at (get_or r 5 0) i) (bit_at (get_or r 6 0) i) (bit_at (get_or r 7 0) i) (bit_at (byte_across q i) 0) (bit_at (byte_across q i) 1) (bit_at (byte_across q i) 2) (bit_at (byte_across q i) 3) (bit_at (byte_across q i) 4) (bit_at (byte_across q i) 5) (bit_at (byte_across q i) 6) (bit_at (byte_across q i) 7)
    (at 0 (omega arith)) (at 1 (omega arith)) (at 2 (omega arith)) (at 3 (omega arith)) (at 4 (omega arith)) (at 5 (omega arith)) (at 6 (omega arith)) (at 7 (omega arith))
    ∙ number_of_byte (byte_across q i) (omega arith)

halves : (n : ℕ) → (0 ≡ n % 2) ⊎ (1 ≡ n % 2)
halves n = elim (cases_lt (n % 2) 1) [ inl lt ↦ inl (omega arith) | inr le ↦ inr (omega arith) ]

pub holds-load : (q r : List ℕ) (b : ℕ) (s : List ℕ) → b < 4 → length r ≡ 8 → length s ≡ 16 → IsTransposed q r → IsEvenWord (slice_index q b) s → IsOddWord (slice_index q (b + 4)) s → Holds r b s
holds-load q r b s hb long whole cr even odd = (
  whole,
  λ k h.
      let m : ℕ = 2 * (k % 4) + k / 8 in
      let in_word : place b k < 64 = omega arith in
      let quot : place b k / 8 ≡ m = omega arith in
      let got : lane r (place b k) ≡ slice_index q (place b k % 8) / 2 ^ (8 * m) % 256
      = lane-transposed q r long cr (place b k) in_word ∙ ap (λ n. slice_index q (place b k % 8) / 2 ^ (8 * n) % 256) quot in
      elim (halves (k / 4)) [
        | inl e ↦
            let j : place b k % 8 ≡ b = omega arith in
            let back : 8 * (m % 2) + m / 2 ≡ k = omega arith in
            got ∙ ap (λ n. slice_index q n / 2 ^ (8 * m) % 256) j ∙ even m (omega arith) ∙ ap (slice_index s) back
        | inr e ↦
            let j : place b k % 8 ≡ b + 4 = omega arith in
            let back : 8 * (m % 2) + 4 + m / 2 ≡ k = omega arith in
            got ∙ ap (λ n. slice_index q n / 2 ^ (8 * m) % 256) j ∙ odd m (omega arith) ∙ ap (slice_index s) back
      ],
)

-- ---- out

byte-back : (q r : List ℕ) → length q ≡ 8 → IsTransposed q r → (j m : ℕ) → j < 8 → m < 8 → slice_index r j / 2 ^ (8 * m) % 256 ≡ lane q (8 * m + j)
unfolding lane
byte-back q r long cr j m hj hm =
    let w : ℕ = slice_index r j / 2 ^ (8 * m) % 256 in
    let at : (t : ℕ) → t < 8 → bit_at (slice_index r j / 2 ^ (8 * m) % 256) t ≡ bit_at (get_or q t 0) (8 * m + j)
    = λ t ht.
    let rem : (8 * m + t) % 8 ≡ t = omega arith in
    let quot : 8 * ((8 * m + t) / 8) + j ≡ 8 * m + j = omega arith in
    sym (bit_of_byte (slice_index r j) m t ht) ∙ cr j (8 * m + t) hj (omega arith)
    ∙ ap (λ n. bit_at (slice_index q n) (8 * ((8 * m + t) / 8) + j)) rem ∙ ap (bit_at (slice_index q t)) quot in
    sym (number_of_byte (slice_index r j / 2 ^ (8 * m) % 256) (omega arith))
    ∙ same_number (bit_at (slice_index r j / 2 ^ (8 * m) % 256) 0) (bit_at (slice_index r j / 2 ^ (8 * m) % 256) 1) (bit_at (slice_index r j / 2 ^ (8 * m) % 256) 2) (bit_at (slice_index r j / 2 ^ (8 * m) % 256) 3) (bit_at (slice_index r j / 2 ^ (8 * m) % 256) 4) (bit_at (slice_index r j / 2 ^ (8 * m) % 256) 5) (bit_at (slice_index r j / 2 ^ (8 * m) % 256) 6) (bit_at (slice_index r j / 2 ^ (8 * m) % 256) 7) (bit_at (get_or q 0 0) (8 * m + j)) (bit_at (get_or q 1 0) (8 * m + j)) (bit_at (get_or q 2 0) (8 * m + j)) (bit_at (get_or q 3 0) (8 * m + j)) (bit_at (get_or q 4 0) (8 * m + j)) (bit_at (get_or q 5 0) (8 * m + j)) (bit_at (get_or q 6 0) (8 * m + j)) (bit_at (get_or q 7 0) (8 * m + j))
    (at 0 (omega arith)) (at 1 (omega arith)) (at 2 (omega arith)) (at 3 (omega arith)) (at 4 (omega arith)) (at 5 (omega arith)) (at 6 (omega arith)) (at 7 (omega arith))
    ∙ ap (λ z. number (bits_at z (8 * m + j))) (eight q long)

pub same_lists : (xs ys : List ℕ) → length xs ≡ length ys → ((k : ℕ) → k < length xs → get_or xs k 0 ≡ get_or ys k 0) → xs ≡ ys
same_lists [] [] e f = refl
same_lists [] (y ∷ ys) e f = absurd (omega arith)
same_lists (x ∷ xs) [] e f = absurd (omega arith)
same_lists (x ∷ xs) (y ∷ ys) e f = ap (λ z. z ∷ xs) (f 0 (omega arith)) ∙ ap (λ zs. y ∷ zs) (same_lists xs ys (omega arith) (λ k h. f (suc k) (omega arith)))

pub holds-store : (q r s block : List ℕ) (b : ℕ) → b < 4 → length q ≡ 8 → length block ≡ 16 → IsTransposed q r → IsEvenWord (slice_index r b) block → IsOddWord (slice_index r (b + 4)) block → Holds q b s → block ≡ s
holds-store q r s block b hb long whole cr even odd hs =
    same_lists block s (whole ∙ sym hs.0) (λ k hk.
    let h : k < 16 = omega arith in
    let m : ℕ = 2 * (k % 4) + k / 8 in
    elim (halves (k / 4)) [
      | inl e ↦
          let back : k ≡ 8 * (m % 2) + m / 2 = omega arith in
          let there : 8 * m + b ≡ place b k = omega arith in
          ap (slice_index block) back ∙ sym (even m (omega arith)) ∙ byte-back q r long cr b m (omega arith) (omega arith) ∙ ap (lane q) there ∙ hs.1 k h
      | inr e ↦
          let back : k ≡ 8 * (m % 2) + 4 + m / 2 = omega arith in
          let there : 8 * m + (b + 4) ≡ place b k = omega arith in
          ap (slice_index block) back ∙ sym (odd m (omega arith)) ∙ byte-back q r long cr (b + 4) m (omega arith) (omega arith) ∙ ap (lane q) there ∙ hs.1 k h
    ])

-- ---- two words as a block

abbrev pub joined_words : List ℕ → List ℕ → List ℕ
joined_words x y = get_or x 0 0 ∷ get_or x 2 0 ∷ get_or x 4 0 ∷ get_or x 6 0 ∷ get_or y 0 0 ∷ get_or y 2 0 ∷ get_or y 4 0 ∷ get_or y 6 0 ∷ get_or x 1 0 ∷ get_or x 3 0 ∷ get_or x 5 0 ∷ get_or x 7 0 ∷ get_or y 1 0 ∷ get_or y 3 0 ∷ get_or y 5 0 ∷ get_or y 7 0 ∷ []

pub concat_words-even : (e o m : ℕ) → m < 8 → e / 2 ^ (8 * m) % 256 ≡ slice_index (joined_words (to_le_bytes w64 e) (to_le_bytes w64 o)) (8 * (m % 2) + m / 2)
concat_words-even e o zero h = omega arith
concat_words-even e o (suc zero) h = omega arith
concat_words-even e o (suc (suc zero)) h = omega arith
concat_words-even e o (suc (suc (suc zero))) h = omega arith
concat_words-even e o (suc (suc (suc (suc zero)))) h = omega arith
concat_words-even e o (suc (suc (suc (suc (suc zero))))) h = omega arith
concat_words-even e o (suc (suc (suc (suc (suc (suc zero)))))) h = omega arith
concat_words-even e o (suc (suc (suc (suc (suc (suc (suc zero))))))) h = omega arith
concat_words-even e o (suc (suc (suc (suc (suc (suc (suc (suc m)))))))) h = absurd (omega arith)

pub concat_words-odd : (e o m : ℕ) → m < 8 → o / 2 ^ (8 * m) % 256 ≡ slice_index (joined_words (to_le_bytes w64 e) (to_le_bytes w64 o)) (8 * (m % 2) + 4 + m / 2)
concat_words-odd e o zero h = omega arith
concat_words-odd e o (suc zero) h = omega arith
concat_words-odd e o (suc (suc zero)) h = omega arith
concat_words-odd e o (suc (suc (suc zero))) h = omega arith
concat_words-odd e o (suc (suc (suc (suc zero)))) h = omega arith
concat_words-odd e o (suc (suc (suc (suc (suc zero))))) h = omega arith
concat_words-odd e o (suc (suc (suc (suc (suc (suc zero)))))) h = omega arith
concat_words-odd e o (suc (suc (suc (suc (suc (suc (suc zero))))))) h = omega arith
concat_words-odd e o (suc (suc (suc (suc (suc (suc (suc (suc m)))))))) h = absurd (omega arith)

pub fourth_of : (a b c d : List ℕ) (P : ℕ → List ℕ → Type 0) → P 0 a → P 1 b → P 2 c → P 3 d → (n : ℕ) → n < 4 → P n (get_or (a ∷ b ∷ c ∷ d ∷ []) n [])
fourth_of a b c d P pa pb pc pd zero h = pa
fourth_of a b c d P pa pb pc pd (suc zero) h = pb
fourth_of a b c d P pa pb pc pd (suc (suc zero)) h = pc
fourth_of a b c d P pa pb pc pd (suc (suc (suc zero))) h = pd
fourth_of a b c d P pa pb pc pd (suc (suc (suc (suc n)))) h = absurd (omega arith)

pub four_lists : (r : List (List ℕ)) (a b c d : List ℕ) → length r ≡ 4 → get_or r 0 [] ≡ a → get_or r 1 [] ≡ b → get_or r 2 [] ≡ c → get_or r 3 [] ≡ d → r ≡ a ∷ b ∷ c ∷ d ∷ []
four_lists [] a b c d e p q s t = absurd (omega arith)
four_lists (v ∷ []) a b c d e p q s t = absurd (omega arith)
four_lists (v ∷ w ∷ []) a b c d e p q s t = absurd (omega arith)
four_lists (v ∷ w ∷ x ∷ []) a b c d e p q s t = absurd (omega arith)
four_lists (v ∷ w ∷ x ∷ y ∷ []) a b c d e p q s t = cc
four_lists (v ∷ w ∷ x ∷ y ∷ z ∷ r) a b c d e p q s t = absurd (omega arith)

-- the block that is held is the block
pub held-is : (q s : List ℕ) → Holds q 0 s → held q ≡ s
unfolding held
held-is q s hs = rw (hs.1 0 (omega arith), hs.1 1 (omega arith), hs.1 2 (omega arith), hs.1 3 (omega arith), hs.1 4 (omega arith), hs.1 5 (omega arith), hs.1 6 (omega arith), hs.1 7 (omega arith), hs.1 8 (omega arith), hs.1 9 (omega arith), hs.1 10 (omega arith), hs.1 11 (omega arith), hs.1 12 (omega arith), hs.1 13 (omega arith), hs.1 14 (omega arith), hs.1 15 (omega arith)) (bytes_of s hs.0)

-- one block as all four
pub in_all : (q s : List ℕ) → Holds q 0 s → Holds q 1 s → Holds q 2 s → Holds q 3 s → (b : ℕ) → b < 4 → Holds q b s
in_all q s h0 h1 h2 h3 zero hb = h0
in_all q s h0 h1 h2 h3 (suc zero) hb = h1
in_all q s h0 h1 h2 h3 (suc (suc zero)) hb = h2
in_all q s h0 h1 h2 h3 (suc (suc (suc zero))) hb = h3
in_all q s h0 h1 h2 h3 (suc (suc (suc (suc b)))) hb = absurd (omega arith)
