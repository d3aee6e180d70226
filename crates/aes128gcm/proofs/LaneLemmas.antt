-- Lanes of words that are made lane by lane.
use Rattle.std.proofs.Common.{◌≡◌, ℕ, ◌+◌, ◌*◌, ◌<◌, ◌^◌, ◌%◌, Bool, true, ◌==◌, List, [], ◌∷◌, map, length, get_or, refl, ap, sym, ◌∙◌, arith, eqb-true, inl, inr, subst}
use Rattle.std.specs.Prelude.{bit_xor}
use Rattle.std.specs.Int.{bit_at}
use Rattle.std.specs.Int.Bits.{xor_assoc}
use Rattle.std.proofs.lemmas.Nat.{xor_comm}
use lib.Bits.{xor_block}
use Rattle.std.proofs.lemmas.Nat.Bits.{bit_at_xor, bit_at-lt}
use Rattle.aes128gcm.specs.Aes.{xtimes, mix, xor_with}
use Rattle.aes128gcm.specs.Lanes.{number, bits_at, lane}
use Rattle.aes128gcm.proofs.CircuitLemmas.{xor1, all_bits, all_bits-at, bit_cases, bits-are}

pub bits_at-map : (f : ℕ → ℕ) (i j : ℕ) → ((w : ℕ) → bit_at (f w) i ≡ bit_at w j) → (q : List ℕ) → bits_at (map f q) i ≡ bits_at q j
bits_at-map f i j e [] = refl
bits_at-map f i j e (w ∷ q) = ap (λ b. b ∷ bits_at (map f q) i) (e w) ∙ ap (λ bs. bit_at w j ∷ bs) (bits_at-map f i j e q)

pub lane-map : (f : ℕ → ℕ) (i j : ℕ) → ((w : ℕ) → bit_at (f w) i ≡ bit_at w j) → (q : List ℕ) → lane (map f q) i ≡ lane q j
unfolding lane
lane-map f i j e q = ap number (bits_at-map f i j e q)

pub eight : (q : List ℕ) → length q ≡ 8 → get_or q 0 0 ∷ get_or q 1 0 ∷ get_or q 2 0 ∷ get_or q 3 0 ∷ get_or q 4 0 ∷ get_or q 5 0 ∷ get_or q 6 0 ∷ get_or q 7 0 ∷ [] ≡ q
eight ([]) long = absurd (omega arith)
eight (a ∷ []) long = absurd (omega arith)
eight (a ∷ b ∷ []) long = absurd (omega arith)
eight (a ∷ b ∷ c ∷ []) long = absurd (omega arith)
eight (a ∷ b ∷ c ∷ d ∷ []) long = absurd (omega arith)
eight (a ∷ b ∷ c ∷ d ∷ e ∷ []) long = absurd (omega arith)
eight (a ∷ b ∷ c ∷ d ∷ e ∷ f ∷ []) long = absurd (omega arith)
eight (a ∷ b ∷ c ∷ d ∷ e ∷ f ∷ g ∷ []) long = absurd (omega arith)
eight (a ∷ b ∷ c ∷ d ∷ e ∷ f ∷ g ∷ h ∷ []) long = refl
eight (a ∷ b ∷ c ∷ d ∷ e ∷ f ∷ g ∷ h ∷ i ∷ q) long = absurd (omega arith)

-- ---- exclusive or

xor_bit : (r s : ℕ) → r < 2 → s < 2 → bit_xor r s ≡ xor1 r s
xor_bit r s h k = elim (bit_cases r h) [
  | inl e ↦ ap (λ x. bit_xor x s) (sym e) ∙ elim (bit_cases s k) [
    | inl f ↦ ap (bit_xor 0) (sym f) ∙ (let t : 0 ≡ xor1 r s = omega arith in t)
    | inr f ↦ ap (bit_xor 0) (sym f) ∙ (let t : 1 ≡ xor1 r s = omega arith in t)
  ]
  | inr e ↦ ap (λ x. bit_xor x s) (sym e) ∙ elim (bit_cases s k) [
    | inl f ↦ ap (bit_xor 1) (sym f) ∙ (let t : 1 ≡ xor1 r s = omega arith in t)
    | inr f ↦ ap (bit_xor 1) (sym f) ∙ (let t : 0 ≡ xor1 r s = omega arith in t)
  ]
]

xor_twos : (r s a b : ℕ) → r < 2 → s < 2 → bit_xor (r + 2 * a) (s + 2 * b) ≡ xor1 r s + 2 * bit_xor a b
xor_twos r s a b h k =
    let p : r + 2 * a ≡ a * 2 ^ 1 + r = omega arith in
    let o : s + 2 * b ≡ b * 2 ^ 1 + s = omega arith in
    ap (λ x. bit_xor x (s + 2 * b)) p ∙ ap (bit_xor (a * 2 ^ 1 + r)) o ∙ xor_block 1 a b r s h k ∙ omega (arith, xor_bit r s h k)

pub lane-xor_with : (p q : List ℕ) (i : ℕ) → length p ≡ length q → lane (xor_with p q) i ≡ bit_xor (lane p i) (lane q i)
unfolding lane
lane-xor_with [] [] i e = refl
lane-xor_with [] (b ∷ q) i e = absurd (omega arith)
lane-xor_with (a ∷ p) [] i e = absurd (omega arith)
lane-xor_with (a ∷ p) (b ∷ q) i e =
    let rest = lane-xor_with p q i (omega arith) in
    ap (λ x. x + 2 * number (bits_at (xor_with p q) i)) (bit_at_xor a b i) ∙ ap (λ x. xor1 (bit_at a i) (bit_at b i) + 2 * x) rest
    ∙ sym (xor_twos (bit_at a i) (bit_at b i) (number (bits_at p i)) (number (bits_at q i)) (bit_at-lt a i) (bit_at-lt b i))

pub lane-xor_eights : (p q : List ℕ) (i : ℕ) → length p ≡ 8 → length q ≡ 8 → lane (bit_xor (get_or p 0 0) (get_or q 0 0) ∷ bit_xor (get_or p 1 0) (get_or q 1 0) ∷ bit_xor (get_or p 2 0) (get_or q 2 0) ∷ bit_xor (get_or p 3 0) (get_or q 3 0) ∷ bit_xor (get_or p 4 0) (get_or q 4 0) ∷ bit_xor (get_or p 5 0) (get_or q 5 0) ∷ bit_xor (get_or p 6 0) (get_or q 6 0) ∷ bit_xor (get_or p 7 0) (get_or q 7 0) ∷ []) i ≡ bit_xor (lane p i) (lane q i)
lane-xor_eights p q i lp lq =
    ap (λ z. lane (xor_with z (get_or q 0 0 ∷ get_or q 1 0 ∷ get_or q 2 0 ∷ get_or q 3 0 ∷ get_or q 4 0 ∷ get_or q 5 0 ∷ get_or q 6 0 ∷ get_or q 7 0 ∷ [])) i) (eight p lp) ∙ ap (λ z. lane (xor_with p z) i) (eight q lq) ∙ lane-xor_with p q i (lp ∙ sym lq)

-- ---- the product with x

abbrev times_words : List ℕ → List ℕ
times_words q = get_or q 7 0 ∷ bit_xor (get_or q 0 0) (get_or q 7 0) ∷ get_or q 1 0 ∷ bit_xor (get_or q 2 0) (get_or q 7 0) ∷ bit_xor (get_or q 3 0) (get_or q 7 0) ∷ get_or q 4 0 ∷ get_or q 5 0 ∷ get_or q 6 0 ∷ []

times_bits : List ℕ → List ℕ
times_bits q = get_or q 7 0 ∷ xor1 (get_or q 0 0) (get_or q 7 0) ∷ get_or q 1 0 ∷ xor1 (get_or q 2 0) (get_or q 7 0) ∷ xor1 (get_or q 3 0) (get_or q 7 0) ∷ get_or q 4 0 ∷ get_or q 5 0 ∷ get_or q 6 0 ∷ []

times_right : List ℕ → Bool
times_right bs = number (times_bits bs) == xtimes (number bs)

all_times_right : all_bits 8 times_right ≡ true
unfolding all_bits times_right times_bits xtimes
all_times_right = refl

bits-times : (a b c d e f g h i : ℕ) → bits_at (times_words (a ∷ b ∷ c ∷ d ∷ e ∷ f ∷ g ∷ h ∷ [])) i ≡ times_bits (bits_at (a ∷ b ∷ c ∷ d ∷ e ∷ f ∷ g ∷ h ∷ []) i)
unfolding times_bits
bits-times a b c d e f g h i = rw (bit_at_xor a h i, bit_at_xor c h i, bit_at_xor d h i) refl

lane-times_eight : (a b c d e f g h i : ℕ) → lane (times_words (a ∷ b ∷ c ∷ d ∷ e ∷ f ∷ g ∷ h ∷ [])) i ≡ xtimes (lane (a ∷ b ∷ c ∷ d ∷ e ∷ f ∷ g ∷ h ∷ []) i)
unfolding lane times_right
lane-times_eight a b c d e f g h i =
    ap number (bits-times a b c d e f g h i) ∙ eqb-true _ _ (all_bits-at (bits_at (a ∷ b ∷ c ∷ d ∷ e ∷ f ∷ g ∷ h ∷ []) i) times_right (bits-are (a ∷ b ∷ c ∷ d ∷ e ∷ f ∷ g ∷ h ∷ []) i) all_times_right)

pub lane-times : (q : List ℕ) (i : ℕ) → length q ≡ 8 → lane (times_words q) i ≡ xtimes (lane q i)
lane-times q i e =
    let s = eight q e in
    let t = lane-times_eight (get_or q 0 0) (get_or q 1 0) (get_or q 2 0) (get_or q 3 0) (get_or q 4 0) (get_or q 5 0) (get_or q 6 0) (get_or q 7 0) i in
    ap (λ z. lane (times_words z) i) (sym s) ∙ t ∙ ap (λ z. xtimes (lane z i)) s

-- the product with x of a sum
xor_four : (a b c d : ℕ) → bit_xor (bit_xor a b) (bit_xor c d) ≡ bit_xor (bit_xor a c) (bit_xor b d)
xor_four a b c d =
    xor_assoc a b (bit_xor c d) ∙ ap (bit_xor a) (sym (xor_assoc b c d) ∙ ap (λ x. bit_xor x d) (xor_comm b c) ∙ xor_assoc c b d) ∙ sym (xor_assoc a c (bit_xor b d))

times_words-xor : (a b c d e f g h a2 b2 c2 d2 e2 f2 g2 h2 : ℕ) → times_words (xor_with (a ∷ b ∷ c ∷ d ∷ e ∷ f ∷ g ∷ h ∷ []) (a2 ∷ b2 ∷ c2 ∷ d2 ∷ e2 ∷ f2 ∷ g2 ∷ h2 ∷ [])) ≡ xor_with (times_words (a ∷ b ∷ c ∷ d ∷ e ∷ f ∷ g ∷ h ∷ [])) (times_words (a2 ∷ b2 ∷ c2 ∷ d2 ∷ e2 ∷ f2 ∷ g2 ∷ h2 ∷ []))
times_words-xor a b c d e f g h a2 b2 c2 d2 e2 f2 g2 h2 = rw (xor_four a a2 h h2, xor_four c c2 h h2, xor_four d d2 h h2) refl

xtimes-xor_eight : (a b c d e f g h a2 b2 c2 d2 e2 f2 g2 h2 i : ℕ) → xtimes (bit_xor (lane (a ∷ b ∷ c ∷ d ∷ e ∷ f ∷ g ∷ h ∷ []) i) (lane (a2 ∷ b2 ∷ c2 ∷ d2 ∷ e2 ∷ f2 ∷ g2 ∷ h2 ∷ []) i)) ≡ bit_xor (xtimes (lane (a ∷ b ∷ c ∷ d ∷ e ∷ f ∷ g ∷ h ∷ []) i)) (xtimes (lane (a2 ∷ b2 ∷ c2 ∷ d2 ∷ e2 ∷ f2 ∷ g2 ∷ h2 ∷ []) i))
xtimes-xor_eight a b c d e f g h a2 b2 c2 d2 e2 f2 g2 h2 i =
    ap xtimes (sym (lane-xor_with (a ∷ b ∷ c ∷ d ∷ e ∷ f ∷ g ∷ h ∷ []) (a2 ∷ b2 ∷ c2 ∷ d2 ∷ e2 ∷ f2 ∷ g2 ∷ h2 ∷ []) i refl)) ∙ sym (lane-times (xor_with (a ∷ b ∷ c ∷ d ∷ e ∷ f ∷ g ∷ h ∷ []) (a2 ∷ b2 ∷ c2 ∷ d2 ∷ e2 ∷ f2 ∷ g2 ∷ h2 ∷ [])) i refl) ∙ ap (λ z. lane z i) (times_words-xor a b c d e f g h a2 b2 c2 d2 e2 f2 g2 h2)
    ∙ lane-xor_with (times_words (a ∷ b ∷ c ∷ d ∷ e ∷ f ∷ g ∷ h ∷ [])) (times_words (a2 ∷ b2 ∷ c2 ∷ d2 ∷ e2 ∷ f2 ∷ g2 ∷ h2 ∷ [])) i refl ∙ ap (λ z. bit_xor z (lane (times_words (a2 ∷ b2 ∷ c2 ∷ d2 ∷ e2 ∷ f2 ∷ g2 ∷ h2 ∷ [])) i)) (lane-times (a ∷ b ∷ c ∷ d ∷ e ∷ f ∷ g ∷ h ∷ []) i refl)
    ∙ ap (bit_xor (xtimes (lane (a ∷ b ∷ c ∷ d ∷ e ∷ f ∷ g ∷ h ∷ []) i))) (lane-times (a2 ∷ b2 ∷ c2 ∷ d2 ∷ e2 ∷ f2 ∷ g2 ∷ h2 ∷ []) i refl)

pub xtimes-xor : (p q : List ℕ) (i : ℕ) → length p ≡ 8 → length q ≡ 8 → xtimes (bit_xor (lane p i) (lane q i)) ≡ bit_xor (xtimes (lane p i)) (xtimes (lane q i))
xtimes-xor p q i lp lq =
    let P : List ℕ → List ℕ → Type 0 = λ p q. xtimes (bit_xor (lane p i) (lane q i)) ≡ bit_xor (xtimes (lane p i)) (xtimes (lane q i)) in
    subst (λ p. P p q) (eight p lp) (subst (P (get_or p 0 0 ∷ get_or p 1 0 ∷ get_or p 2 0 ∷ get_or p 3 0 ∷ get_or p 4 0 ∷ get_or p 5 0 ∷ get_or p 6 0 ∷ get_or p 7 0 ∷ [])) (eight q lq) (xtimes-xor_eight (get_or p 0 0) (get_or p 1 0) (get_or p 2 0) (get_or p 3 0) (get_or p 4 0) (get_or p 5 0) (get_or p 6 0) (get_or p 7 0) (get_or q 0 0) (get_or q 1 0) (get_or q 2 0) (get_or q 3 0) (get_or q 4 0) (get_or q 5 0) (get_or q 6 0) (get_or q 7 0) i))

-- MIXCOLUMNS of lanes, as the code does it
xor_regrouped : (p q b c d : ℕ) → bit_xor (bit_xor (bit_xor p q) b) (bit_xor c d) ≡ bit_xor (bit_xor (bit_xor p (bit_xor q b)) c) d
xor_regrouped p q b c d = ap (λ x. bit_xor x (bit_xor c d)) (xor_assoc p q b) ∙ sym (xor_assoc (bit_xor p (bit_xor q b)) c d)

pub mix-lanes : (q next both multiple third turned result : List ℕ) (i : ℕ) → length q ≡ 8 → length next ≡ 8 → i < 64
    → ((i : ℕ) → i < 64 → lane next i ≡ lane q ((i + 16) % 64))
    → ((i : ℕ) → lane both i ≡ bit_xor (lane q i) (lane next i))
    → ((i : ℕ) → lane multiple i ≡ xtimes (lane both i))
    → ((i : ℕ) → lane third i ≡ bit_xor (lane multiple i) (lane next i))
    → ((i : ℕ) → i < 64 → lane turned i ≡ lane both ((i + 32) % 64))
    → ((i : ℕ) → lane result i ≡ bit_xor (lane third i) (lane turned i))
    → lane result i ≡ mix (lane q i) (lane q ((i + 16) % 64)) (lane q ((i + 32) % 64)) (lane q ((i + 48) % 64))
unfolding mix
mix-lanes q next both multiple third turned result i lq ln h n bo dd th tu re =
    let j : ((i + 32) % 64 + 16) % 64 ≡ (i + 48) % 64 = omega arith in
    let far : lane next ((i + 32) % 64) ≡ lane q ((i + 48) % 64) = n ((i + 32) % 64) (omega arith) ∙ ap (lane q) j in
    let t : lane turned i ≡ bit_xor (lane q ((i + 32) % 64)) (lane q ((i + 48) % 64)) = tu i h ∙ bo ((i + 32) % 64) ∙ ap (bit_xor (lane q ((i + 32) % 64))) far in
    let d : lane multiple i ≡ bit_xor (xtimes (lane q i)) (xtimes (lane next i)) = dd i ∙ ap xtimes (bo i) ∙ xtimes-xor q next i lq ln in
    let whole : lane result i ≡ bit_xor (bit_xor (bit_xor (xtimes (lane q i)) (xtimes (lane next i))) (lane next i)) (bit_xor (lane q ((i + 32) % 64)) (lane q ((i + 48) % 64)))
    = re i ∙ ap (λ x. bit_xor x (lane turned i)) (th i ∙ ap (λ x. bit_xor x (lane next i)) d) ∙ ap (bit_xor (bit_xor (bit_xor (xtimes (lane q i)) (xtimes (lane next i))) (lane next i))) t in
    whole ∙ xor_regrouped (xtimes (lane q i)) (xtimes (lane next i)) (lane next i) (lane q ((i + 32) % 64)) (lane q ((i + 48) % 64))
    ∙ ap (λ x. bit_xor (bit_xor (bit_xor (xtimes (lane q i)) (bit_xor (xtimes x) x)) (lane q ((i + 32) % 64))) (lane q ((i + 48) % 64))) (n i h)
