-- Where each bit of a word of masks and shifts comes from: the word is run beside the places that its bits come from, and these compute.
use Rattle.std.proofs.Common.{◌≡◌, ◌≢◌, ℕ, zero, suc, ◌+◌, ◌*◌, ◌/◌, ◌<◌, ◌≤◌, ◌^◌, ◌-◌, ◌%◌, min, max, true, cond, ◌==◌, nat_lt, List, [], ◌∷◌, map, get_or, refl, ap, sym, ◌∙◌, arith, eqb-true, inl, inr, lt-ltb, le-ltb}
use Rattle.std.specs.Prelude.{bit_or, slice_index}
use Rattle.std.specs.Int.{bit_at}
use Rattle.std.proofs.lemmas.Nat.Bits.{bit_at_or, bit_at_and, bit_at-lt, bit_at-zero, bit_at_above, bit_at_cat_low, bit_at_cat_high}
use Rattle.std.proofs.lemmas.Nat.{shr-shr, pow_pos}
use Rattle.std.proofs.lemmas.Bool.{cases_lt}
use Rattle.aes128gcm.proofs.AllBelow.{all_below, all_below-at}
use Rattle.aes128gcm.specs.Nets.{masked, up, down, rotation_16, rotation_32, row_shift, transposition, rotate_16, rotate_32, shift_rows_word, transpose_words}

-- 0: no bit, 1: unknown, s + 2: bit s % 64 of word s / 64
abbrev pub source : List ℕ → ℕ → ℕ
source q zero = 0
source q (suc zero) = 0
source q (suc (suc s)) = bit_at (get_or q (s / 64) 0) (s % 64)

-- ---- the operations on places

abbrev either : ℕ → ℕ → ℕ
either zero b = b
either (suc a) zero = suc a
either (suc a) (suc b) = 1

abbrev kept : ℕ → ℕ → ℕ
kept zero s = 0
kept (suc b) s = s

abbrev raised : ℕ → (ℕ → ℕ) → ℕ → ℕ
raised k f i = cond (nat_lt i k) 0 (cond (nat_lt i 64) (f (i - k)) 0)

-- ---- what they do to bits

either-is : (q : List ℕ) (a b x y : ℕ) → (a ≢ 1 → x ≡ source q a) → (b ≢ 1 → y ≡ source q b) → either a b ≢ 1 → max x y ≡ source q (either a b)
either-is q zero b x y f g h = let e : x ≡ 0 = f (λ e. cc) in let t : max x y ≡ y = omega arith in t ∙ g h
either-is q (suc a) zero x y f g h = let e : y ≡ 0 = g (λ e. cc) in let t : max x y ≡ x = omega arith in t ∙ f h
either-is q (suc a) (suc b) x y f g h = absurd (h refl)

kept-is : (q : List ℕ) (b s x : ℕ) → b < 2 → x < 2 → (s ≢ 1 → x ≡ source q s) → kept b s ≢ 1 → min x b ≡ source q (kept b s)
kept-is q zero s x lb lx f h = omega arith
kept-is q (suc b) s x lb lx f h = let t : min x (suc b) ≡ x = omega arith in t ∙ f h

bit_at-up_low : (k w i : ℕ) → i < 64 → i < k → bit_at (up k w) i ≡ 0
unfolding up
bit_at-up_low k w i l h =
    sym (bit_at_cat_low (w * 2 ^ k / 2 ^ 64) 64 (w * 2 ^ k % 2 ^ 64) i l) ∙ ap (λ z. bit_at z i) (omega arith) ∙ bit_at_cat_low w k 0 i h ∙ bit_at-zero i

pub bit_at-up_mid : (k w i : ℕ) → i < 64 → k ≤ i → bit_at (up k w) i ≡ bit_at w (i - k)
unfolding up
bit_at-up_mid k w i l h =
    sym (bit_at_cat_low (w * 2 ^ k / 2 ^ 64) 64 (w * 2 ^ k % 2 ^ 64) i l) ∙ ap (λ z. bit_at z i) (omega arith) ∙ bit_at_cat_high w k 0 i (pow_pos k) h

bit_at-up_high : (k w i : ℕ) → 64 ≤ i → bit_at (up k w) i ≡ 0
unfolding up
bit_at-up_high k w i h = bit_at_above (w * 2 ^ k % 2 ^ 64) 64 i (omega arith) h

raised-is : (q : List ℕ) (k w : ℕ) (f : ℕ → ℕ) → ((i : ℕ) → f i ≢ 1 → bit_at w i ≡ source q (f i)) → (i : ℕ) → raised k f i ≢ 1 → bit_at (up k w) i ≡ source q (raised k f i)
raised-is q k w f g i h = elim (cases_lt i k) [
  | inl low ↦ elim (cases_lt i 64) [
    | inl in_word ↦ bit_at-up_low k w i in_word low ∙ ap (source q) (sym (ap (λ b. cond b 0 (cond (nat_lt i 64) (f (i - k)) 0)) (lt-ltb i k low)))
    | inr out ↦ bit_at-up_high k w i out ∙ ap (source q) (sym (ap (λ b. cond b 0 (cond (nat_lt i 64) (f (i - k)) 0)) (lt-ltb i k low)))
  ]
  | inr high ↦
      let past : raised k f i ≡ cond (nat_lt i 64) (f (i - k)) 0 = ap (λ b. cond b 0 (cond (nat_lt i 64) (f (i - k)) 0)) (le-ltb i k high) in
      elim (cases_lt i 64) [
        | inl in_word ↦
            let there : raised k f i ≡ f (i - k) = past ∙ ap (λ b. cond b (f (i - k)) 0) (lt-ltb i 64 in_word) in
            bit_at-up_mid k w i in_word high ∙ g (i - k) (λ e. h (there ∙ e)) ∙ ap (source q) (sym there)
        | inr out ↦
            let there : raised k f i ≡ 0 = past ∙ ap (λ b. cond b (f (i - k)) 0) (le-ltb i 64 out) in
            bit_at-up_high k w i out ∙ ap (source q) (sym there)
      ]
]

bit_at-down : (k w i : ℕ) → bit_at (down k w) i ≡ bit_at w (i + k)
unfolding down
bit_at-down k w i = ap (λ x. x % 2) (shr-shr w k i ∙ ap (λ n. w / 2 ^ n) (omega arith))

-- ---- a word, the place that each of its bits comes from, and that it does

abbrev Wired : List ℕ → Type 0
Wired q = (w : ℕ) × (f : ℕ → ℕ) × ((i : ℕ) → f i ≢ 1 → bit_at w i ≡ source q (f i))

or_wired : (q : List ℕ) → Wired q → Wired q → Wired q
or_wired q x y = (bit_or x.0 y.0, λ i. either (x.1 i) (y.1 i), λ i h. bit_at_or x.0 y.0 i ∙ either-is q (x.1 i) (y.1 i) (bit_at x.0 i) (bit_at y.0 i) (x.2 i) (y.2 i) h)

and_wired : (q : List ℕ) → ℕ → Wired q → Wired q
unfolding masked
and_wired q m x = (masked m x.0, λ i. kept (bit_at m i) (x.1 i), λ i h. bit_at_and x.0 m i ∙ kept-is q (bit_at m i) (x.1 i) (bit_at x.0 i) (bit_at-lt m i) (bit_at-lt x.0 i) (x.2 i) h)

up_wired : (q : List ℕ) → ℕ → Wired q → Wired q
up_wired q k x = (up k x.0, raised k x.1, raised-is q k x.0 x.1 x.2)

down_wired : (q : List ℕ) → ℕ → Wired q → Wired q
down_wired q k x = (down k x.0, λ i. x.1 (i + k), λ i h. bit_at-down k x.0 i ∙ x.2 (i + k) h)

-- word j itself
abbrev own : ℕ → ℕ → ℕ
own j i = cond (nat_lt i 64) (suc (suc (64 * j + i))) 1

own-is : (q : List ℕ) (j i : ℕ) → own j i ≢ 1 → bit_at (get_or q j 0) i ≡ source q (own j i)
own-is q j i h = elim (cases_lt i 64) [
  | inl in_word ↦
      let there : own j i ≡ suc (suc (64 * j + i)) = ap (λ b. cond b (suc (suc (64 * j + i))) 1) (lt-ltb i 64 in_word) in
      let quot : j ≡ (64 * j + i) / 64 = omega arith in
      let rem : i ≡ (64 * j + i) % 64 = omega arith in
      ap (λ w. bit_at w i) (ap (λ n. get_or q n 0) quot) ∙ ap (bit_at (get_or q ((64 * j + i) / 64) 0)) rem ∙ ap (source q) (sym there)
  | inr out ↦ absurd (h (ap (λ b. cond b (suc (suc (64 * j + i))) 1) (le-ltb i 64 out)))
]

wire : (q : List ℕ) → ℕ → Wired q
wire q j = (get_or q j 0, own j, own-is q j)

-- ---- one word

settled : (q : List ℕ) (t : Wired q) (i s : ℕ) → t.1 i ≡ suc (suc s) → bit_at t.0 i ≡ bit_at (get_or q (s / 64) 0) (s % 64)
settled q t i s e = t.2 i (λ o. absurd (omega arith)) ∙ ap (source q) e

rotation_16_traced : (q : List ℕ) → Wired q
rotation_16_traced q = rotation_16 (or_wired q) (and_wired q) (up_wired q) (down_wired q) (wire q 0)

rotation_16_places : (q : List ℕ) → all_below (λ i. (rotation_16_traced q).1 i == suc (suc ((i + 16) % 64))) 64 ≡ true
unfolding all_below rotation_16_traced rotation_16 or_wired and_wired up_wired down_wired wire
rotation_16_places q = refl

rotation_16_word : (w : ℕ) → (rotation_16_traced (w ∷ [])).0 ≡ rotate_16 w
unfolding rotation_16_traced rotate_16 rotation_16 or_wired and_wired up_wired down_wired wire
rotation_16_word w = refl

pub bit_at-rotate_16 : (w i : ℕ) → i < 64 → bit_at (rotate_16 w) i ≡ bit_at w ((i + 16) % 64)
bit_at-rotate_16 w i h =
    let at : (rotation_16_traced (w ∷ [])).1 i ≡ suc (suc ((i + 16) % 64)) = eqb-true _ _ (all_below-at (λ i. (rotation_16_traced (w ∷ [])).1 i == suc (suc ((i + 16) % 64))) 64 i (rotation_16_places (w ∷ [])) h) in
    let quot : ((i + 16) % 64) / 64 ≡ 0 = omega arith in
    let rem : ((i + 16) % 64) % 64 ≡ (i + 16) % 64 = omega arith in
    ap (λ z. bit_at z i) (sym (rotation_16_word w)) ∙ settled (w ∷ []) (rotation_16_traced (w ∷ [])) i ((i + 16) % 64) at
    ∙ ap (λ n. bit_at (get_or (w ∷ []) n 0) (((i + 16) % 64) % 64)) quot ∙ ap (bit_at w) rem

rotation_32_traced : (q : List ℕ) → Wired q
rotation_32_traced q = rotation_32 (or_wired q) (and_wired q) (up_wired q) (down_wired q) (wire q 0)

rotation_32_places : (q : List ℕ) → all_below (λ i. (rotation_32_traced q).1 i == suc (suc ((i + 32) % 64))) 64 ≡ true
unfolding all_below rotation_32_traced rotation_32 or_wired and_wired up_wired down_wired wire
rotation_32_places q = refl

rotation_32_word : (w : ℕ) → (rotation_32_traced (w ∷ [])).0 ≡ rotate_32 w
unfolding rotation_32_traced rotate_32 rotation_32 or_wired and_wired up_wired down_wired wire
rotation_32_word w = refl

pub bit_at-rotate_32 : (w i : ℕ) → i < 64 → bit_at (rotate_32 w) i ≡ bit_at w ((i + 32) % 64)
bit_at-rotate_32 w i h =
    let at : (rotation_32_traced (w ∷ [])).1 i ≡ suc (suc ((i + 32) % 64)) = eqb-true _ _ (all_below-at (λ i. (rotation_32_traced (w ∷ [])).1 i == suc (suc ((i + 32) % 64))) 64 i (rotation_32_places (w ∷ [])) h) in
    let quot : ((i + 32) % 64) / 64 ≡ 0 = omega arith in
    let rem : ((i + 32) % 64) % 64 ≡ (i + 32) % 64 = omega arith in
    ap (λ z. bit_at z i) (sym (rotation_32_word w)) ∙ settled (w ∷ []) (rotation_32_traced (w ∷ [])) i ((i + 32) % 64) at
    ∙ ap (λ n. bit_at (get_or (w ∷ []) n 0) (((i + 32) % 64) % 64)) quot ∙ ap (bit_at w) rem

row_shift_traced : (q : List ℕ) → Wired q
row_shift_traced q = row_shift (or_wired q) (and_wired q) (up_wired q) (down_wired q) (wire q 0)

row_shift_places : (q : List ℕ) → all_below (λ i. (row_shift_traced q).1 i == suc (suc (16 * (i / 16) + (i + 4 * (i / 16)) % 16))) 64 ≡ true
unfolding all_below row_shift_traced row_shift or_wired and_wired up_wired down_wired wire
row_shift_places q = refl

row_shift_word : (w : ℕ) → (row_shift_traced (w ∷ [])).0 ≡ shift_rows_word w
unfolding row_shift_traced shift_rows_word row_shift or_wired and_wired up_wired down_wired wire
row_shift_word w = refl

pub bit_at-shift_rows_word : (w i : ℕ) → i < 64 → bit_at (shift_rows_word w) i ≡ bit_at w (16 * (i / 16) + (i + 4 * (i / 16)) % 16)
bit_at-shift_rows_word w i h =
    let at : (row_shift_traced (w ∷ [])).1 i ≡ suc (suc (16 * (i / 16) + (i + 4 * (i / 16)) % 16)) = eqb-true _ _ (all_below-at (λ i. (row_shift_traced (w ∷ [])).1 i == suc (suc (16 * (i / 16) + (i + 4 * (i / 16)) % 16))) 64 i (row_shift_places (w ∷ [])) h) in
    let quot : (16 * (i / 16) + (i + 4 * (i / 16)) % 16) / 64 ≡ 0 = omega arith in
    let rem : (16 * (i / 16) + (i + 4 * (i / 16)) % 16) % 64 ≡ 16 * (i / 16) + (i + 4 * (i / 16)) % 16 = omega arith in
    ap (λ z. bit_at z i) (sym (row_shift_word w)) ∙ settled (w ∷ []) (row_shift_traced (w ∷ [])) i (16 * (i / 16) + (i + 4 * (i / 16)) % 16) at
    ∙ ap (λ n. bit_at (get_or (w ∷ []) n 0) ((16 * (i / 16) + (i + 4 * (i / 16)) % 16) % 64)) quot ∙ ap (bit_at w) rem

-- ---- eight words

abbrev places_of : (q : List ℕ) → List (Wired q) → List (ℕ → ℕ)
places_of q ts = map (λ t. t.1) ts

abbrev words_of : (q : List ℕ) → List (Wired q) → List ℕ
words_of q ts = map (λ t. t.0) ts

none_placed : ℕ → ℕ
none_placed i = 0

settled_at : (q : List ℕ) (ts : List (Wired q)) (k i s : ℕ) → get_or (places_of q ts) k none_placed i ≡ suc (suc s) → bit_at (get_or (words_of q ts) k 0) i ≡ bit_at (get_or q (s / 64) 0) (s % 64)
unfolding none_placed
settled_at q [] k i s e = absurd (omega arith)
settled_at q (t ∷ ts) zero i s e = settled q t i s e
settled_at q (t ∷ ts) (suc k) i s e = settled_at q ts k i s e

transposition_traced : (q : List ℕ) → List (Wired q)
transposition_traced q = transposition (or_wired q) (and_wired q) (up_wired q) (down_wired q) (wire q 0) (wire q 1) (wire q 2) (wire q 3) (wire q 4) (wire q 5) (wire q 6) (wire q 7)

abbrev cross : ℕ → ℕ → ℕ
cross k i = 64 * (i % 8) + (8 * (i / 8) + k)

transposition_places : (q : List ℕ) → all_below (λ k. all_below (λ i. get_or (places_of q (transposition_traced q)) k none_placed i == suc (suc (cross k i))) 64) 8 ≡ true
unfolding all_below transposition_traced transposition or_wired and_wired up_wired down_wired wire
transposition_places q = refl

transposition_words : (q : List ℕ) → words_of q (transposition_traced q) ≡ transpose_words q
unfolding transposition_traced transpose_words transposition or_wired and_wired up_wired down_wired wire
transposition_words q = refl

pub bit_at-transpose_words : (q : List ℕ) (k i : ℕ) → k < 8 → i < 64 → bit_at (slice_index (transpose_words q) k) i ≡ bit_at (slice_index q (i % 8)) (8 * (i / 8) + k)
bit_at-transpose_words q k i hk h =
    let row : all_below (λ i. get_or (places_of q (transposition_traced q)) k none_placed i == suc (suc (cross k i))) 64 ≡ true
    = all_below-at (λ k. all_below (λ i. get_or (places_of q (transposition_traced q)) k none_placed i == suc (suc (cross k i))) 64) 8 k (transposition_places q) hk in
    let at : get_or (places_of q (transposition_traced q)) k none_placed i ≡ suc (suc (cross k i))
    = eqb-true _ _ (all_below-at (λ i. get_or (places_of q (transposition_traced q)) k none_placed i == suc (suc (cross k i))) 64 i row h) in
    let quot : cross k i / 64 ≡ i % 8 = omega arith in
    let rem : cross k i % 64 ≡ 8 * (i / 8) + k = omega arith in
    ap (λ z. bit_at (get_or z k 0) i) (sym (transposition_words q)) ∙ settled_at q (transposition_traced q) k i (cross k i) at
    ∙ ap (λ n. bit_at (get_or q n 0) (cross k i % 64)) quot ∙ ap (bit_at (get_or q (i % 8) 0)) rem
