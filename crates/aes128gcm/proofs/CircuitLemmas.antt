-- The circuit gives SUBBYTES in each lane.
use Rattle.std.proofs.Common.{◌≡◌, ℕ, zero, suc, ◌+◌, ◌<◌, ◌%◌, min, Bool, true, ◌&&◌, ◌==◌, List, [], ◌∷◌, map, length, get_or, refl, ap, sym, ◌∙◌, arith, eqb-true, subst, inl, inr, ◌⊎◌}
use Rattle.std.specs.Prelude.{bit_xor, bit_and}
use Rattle.std.specs.Int.{bit_at}
use Rattle.std.proofs.lemmas.Nat.Bits.{bit_at_xor, bit_at_and, bit_at_ones, bit_at-lt}
use Rattle.std.proofs.lemmas.Bool.{and_parts}
use Rattle.aes128gcm.specs.Aes.{xtimes, multiple, multiples_sum, times, inverse, affine_bit, affine, s_box}
use Rattle.aes128gcm.specs.Lanes.{number, bits_at, lane}
use Rattle.aes128gcm.specs.Circuit.{circuit, sub_words}

-- ---- single bits: all 256 bytes, by computation

abbrev pub xor1 : ℕ → ℕ → ℕ
xor1 a b = (a + b) % 2

abbrev eighth : List ℕ → ℕ → ℕ
eighth bs k = get_or bs k 0

unfoldable sub_bits : List ℕ → List ℕ
sub_bits bs = circuit xor1 min 1 (eighth bs 0) (eighth bs 1) (eighth bs 2) (eighth bs 3) (eighth bs 4) (eighth bs 5) (eighth bs 6) (eighth bs 7)

unfoldable pub all_bits : ℕ → (List ℕ → Bool) → Bool
all_bits zero p = p []
all_bits (suc n) p = all_bits n (λ bs. p (0 ∷ bs)) && all_bits n (λ bs. p (1 ∷ bs))

unfoldable right : List ℕ → Bool
right bs = number (sub_bits bs) == s_box (number bs)

all_right : all_bits 8 right ≡ true
unfolding all_bits right sub_bits circuit s_box affine affine_bit inverse times multiples_sum multiple xtimes
all_right = refl

abbrev pub AreBits : List ℕ → Type 0
AreBits [] = Unit {0}
AreBits (b ∷ bs) = (b < 2) × AreBits bs

pub bit_cases : (b : ℕ) → b < 2 → (0 ≡ b) ⊎ (1 ≡ b)
bit_cases zero h = inl refl
bit_cases (suc zero) h = inr refl
bit_cases (suc (suc b)) h = absurd (omega arith)

pub all_bits-at : (bs : List ℕ) (p : List ℕ → Bool) → AreBits bs → all_bits (length bs) p ≡ true → p bs ≡ true
unfolding all_bits
all_bits-at [] p are h = h
all_bits-at (b ∷ bs) p are h =
    let parts = and_parts (all_bits (length bs) (λ c. p (0 ∷ c))) (all_bits (length bs) (λ c. p (1 ∷ c))) h in
    elim (bit_cases b are.0) [
      | inl e ↦ subst (λ x. p (x ∷ bs) ≡ true) e (all_bits-at bs (λ c. p (0 ∷ c)) are.1 parts.0)
      | inr e ↦ subst (λ x. p (x ∷ bs) ≡ true) e (all_bits-at bs (λ c. p (1 ∷ c)) are.1 parts.1)
    ]

sub_bits-right : (bs : List ℕ) → length bs ≡ 8 → AreBits bs → number (sub_bits bs) ≡ s_box (number bs)
unfolding right
sub_bits-right bs long are = eqb-true _ _ (all_bits-at bs right are (ap (λ n. all_bits n right) long ∙ all_right))

-- ---- words: the circuit run on words that carry one of their bits

-- a word, a bit, and that it is the word's at i
abbrev Carries : ℕ → Type 0
Carries i = (w : ℕ) × (b : ℕ) × (bit_at w i ≡ b)

xor_carried : (i : ℕ) → Carries i → Carries i → Carries i
xor_carried i x y = (bit_xor x.0 y.0, xor1 x.1 y.1, bit_at_xor x.0 y.0 i ∙ ap (λ b. xor1 b (bit_at y.0 i)) x.2 ∙ ap (xor1 x.1) y.2)

and_carried : (i : ℕ) → Carries i → Carries i → Carries i
and_carried i x y = (bit_and x.0 y.0, min x.1 y.1, bit_at_and x.0 y.0 i ∙ ap (λ b. min b (bit_at y.0 i)) x.2 ∙ ap (min x.1) y.2)

ones_carried : (i : ℕ) → i < 64 → Carries i
ones_carried i h = (0xFFFFFFFFFFFFFFFF, 1, bit_at_ones 64 i h)

carry : (i : ℕ) → ℕ → Carries i
carry i w = (w, bit_at w i, refl)

words_of : (i : ℕ) → List (Carries i) → List ℕ
words_of i ts = map (λ t. t.0) ts

flags_of : (i : ℕ) → List (Carries i) → List ℕ
flags_of i ts = map (λ t. t.1) ts

-- the bits of the words carried are the bits carried
bits_carried : (i : ℕ) (ts : List (Carries i)) → bits_at (words_of i ts) i ≡ flags_of i ts
unfolding words_of flags_of
bits_carried i [] = refl
bits_carried i (t ∷ ts) = ap (λ b. b ∷ bits_at (map (λ u. u.0) ts) i) t.2 ∙ ap (λ bs. t.1 ∷ bs) (bits_carried i ts)

both : (i : ℕ) → i < 64 → ℕ → ℕ → ℕ → ℕ → ℕ → ℕ → ℕ → ℕ → List (Carries i)
both i h w0 w1 w2 w3 w4 w5 w6 w7 = circuit (xor_carried i) (and_carried i) (ones_carried i h) (carry i w0) (carry i w1) (carry i w2) (carry i w3) (carry i w4) (carry i w5) (carry i w6) (carry i w7)

both-words : (i : ℕ) (h : i < 64) (w0 w1 w2 w3 w4 w5 w6 w7 : ℕ) → words_of i (both i h w0 w1 w2 w3 w4 w5 w6 w7) ≡ circuit bit_xor bit_and 0xFFFFFFFFFFFFFFFF w0 w1 w2 w3 w4 w5 w6 w7
unfolding words_of both circuit xor_carried and_carried ones_carried carry
both-words i h w0 w1 w2 w3 w4 w5 w6 w7 = refl

both-flags : (i : ℕ) (h : i < 64) (w0 w1 w2 w3 w4 w5 w6 w7 : ℕ) → flags_of i (both i h w0 w1 w2 w3 w4 w5 w6 w7) ≡ circuit xor1 min 1 (bit_at w0 i) (bit_at w1 i) (bit_at w2 i) (bit_at w3 i) (bit_at w4 i) (bit_at w5 i) (bit_at w6 i) (bit_at w7 i)
unfolding flags_of both circuit xor_carried and_carried ones_carried carry
both-flags i h w0 w1 w2 w3 w4 w5 w6 w7 = refl

pub bits-are : (q : List ℕ) (i : ℕ) → AreBits (bits_at q i)
bits-are [] i = tt
bits-are (w ∷ ws) i = (bit_at-lt w i, bits-are ws i)

lane-eight : (i : ℕ) (h : i < 64) (w0 w1 w2 w3 w4 w5 w6 w7 : ℕ) → lane (circuit bit_xor bit_and 0xFFFFFFFFFFFFFFFF w0 w1 w2 w3 w4 w5 w6 w7) i ≡ s_box (lane (w0 ∷ w1 ∷ w2 ∷ w3 ∷ w4 ∷ w5 ∷ w6 ∷ w7 ∷ []) i)
unfolding lane sub_bits
lane-eight i h w0 w1 w2 w3 w4 w5 w6 w7 =
    let bs : List ℕ = bits_at (w0 ∷ w1 ∷ w2 ∷ w3 ∷ w4 ∷ w5 ∷ w6 ∷ w7 ∷ []) i in
    let circuit_bits : bits_at (circuit bit_xor bit_and 0xFFFFFFFFFFFFFFFF w0 w1 w2 w3 w4 w5 w6 w7) i ≡ circuit xor1 min 1 (bit_at w0 i) (bit_at w1 i) (bit_at w2 i) (bit_at w3 i) (bit_at w4 i) (bit_at w5 i) (bit_at w6 i) (bit_at w7 i)
    = ap (λ z. bits_at z i) (sym (both-words i h w0 w1 w2 w3 w4 w5 w6 w7)) ∙ bits_carried i (both i h w0 w1 w2 w3 w4 w5 w6 w7) ∙ both-flags i h w0 w1 w2 w3 w4 w5 w6 w7 in
    ap number circuit_bits ∙ sub_bits-right bs refl (bits-are (w0 ∷ w1 ∷ w2 ∷ w3 ∷ w4 ∷ w5 ∷ w6 ∷ w7 ∷ []) i)

-- SUBBYTES in each lane
pub lane-sub_words : (q : List ℕ) (i : ℕ) → i < 64 → length q ≡ 8 → lane (sub_words q) i ≡ s_box (lane q i)
unfolding sub_words
lane-sub_words ([]) i h e = absurd (omega arith)
lane-sub_words (w0 ∷ []) i h e = absurd (omega arith)
lane-sub_words (w0 ∷ w1 ∷ []) i h e = absurd (omega arith)
lane-sub_words (w0 ∷ w1 ∷ w2 ∷ []) i h e = absurd (omega arith)
lane-sub_words (w0 ∷ w1 ∷ w2 ∷ w3 ∷ []) i h e = absurd (omega arith)
lane-sub_words (w0 ∷ w1 ∷ w2 ∷ w3 ∷ w4 ∷ []) i h e = absurd (omega arith)
lane-sub_words (w0 ∷ w1 ∷ w2 ∷ w3 ∷ w4 ∷ w5 ∷ []) i h e = absurd (omega arith)
lane-sub_words (w0 ∷ w1 ∷ w2 ∷ w3 ∷ w4 ∷ w5 ∷ w6 ∷ []) i h e = absurd (omega arith)
lane-sub_words (w0 ∷ w1 ∷ w2 ∷ w3 ∷ w4 ∷ w5 ∷ w6 ∷ w7 ∷ []) i h e = lane-eight i h w0 w1 w2 w3 w4 w5 w6 w7
lane-sub_words (w0 ∷ w1 ∷ w2 ∷ w3 ∷ w4 ∷ w5 ∷ w6 ∷ w7 ∷ w8 ∷ ws) i h e = absurd (omega arith)
