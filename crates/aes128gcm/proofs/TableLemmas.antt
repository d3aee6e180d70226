-- The product of blocks by a table.
use Rattle.std.proofs.Common.{◌≡◌, ℕ, zero, suc, ◌+◌, ◌-◌, ◌*◌, ◌/◌, ◌%◌, ◌^◌, ◌<◌, ◌≢◌, List, length, get_or, set, refl, ap, sym, ◌∙◌, arith, inl, inr, add-one, get_or-set_other, get_or-set_same}
use Rattle.std.specs.Prelude.{bit_and, bit_or, bit_xor}
use Rattle.std.proofs.lemmas.Bool.{cases_lt}
use Rattle.std.proofs.lemmas.Nat.{and_mask, and_comm, shr-shr, or_shifted}
use Rattle.std.proofs.lemmas.Nat.Bits.{bit_at_cat_low}
use lib.Bits.{xor_block}
use Rattle.std.proofs.Math.Nat.{pow-suc, mul_assoc}
use Rattle.aes128gcm.specs.Nets.{up}
use Rattle.aes128gcm.proofs.NetLemmas.{bit_at-up_mid}
use Rattle.aes128gcm.specs.Gcm.{times_x, multiple, multiples_sum, product}

and_all : (w : ℕ) → w < 2 ^ 64 → bit_and 18446744073709551615 w ≡ w
and_all w h = and_comm 18446744073709551615 w ∙ and_mask w 64 ∙ omega arith

-- a bit's copies, and a word under them
copies_of : (b : ℕ) → b < 2 → (0 + (18446744073709551616 - b)) % 18446744073709551616 ≡ b * 0xFFFFFFFFFFFFFFFF
copies_of zero h = omega arith
copies_of (suc zero) h = omega arith
copies_of (suc (suc b)) h = absurd (omega arith)

pub under_copies : (b m w : ℕ) → m ≡ b * 0xFFFFFFFFFFFFFFFF → b < 2 → w < 2 ^ 64 → bit_and m w ≡ b * w
under_copies zero m w e h k = let z : m ≡ 0 = omega arith in ap (λ x. bit_and x w) z ∙ (let o : 0 ≡ 0 * w = omega arith in o)
under_copies (suc zero) m w e h k = let z : m ≡ 18446744073709551615 = omega arith in ap (λ x. bit_and x w) z ∙ and_all w k ∙ (let o : w ≡ 1 * w = omega arith in o)
under_copies (suc (suc b)) m w e h k = absurd (omega arith)

-- ---- the sum, in two words

both_xor : (a b c d : ℕ) → b < 2 ^ 64 → d < 2 ^ 64 → bit_xor (a * 2 ^ 64 + b) (c * 2 ^ 64 + d) ≡ bit_xor a c * 2 ^ 64 + bit_xor b d
both_xor a b c d h k = xor_block 64 a c b d h k

times_split : (n hi lo v : ℕ) → n < 2 → hi * 2 ^ 64 + lo ≡ v → n * v ≡ (n * hi) * 2 ^ 64 + n * lo
times_split zero hi lo v h e = omega arith
times_split (suc zero) hi lo v h e = omega arith
times_split (suc (suc n)) hi lo v h e = absurd (omega arith)

pub top_bit : (x i : ℕ) → i < 64 → x / 2 ^ 64 / 2 ^ (63 - i) % 2 ≡ x / 2 ^ (127 - i) % 2
top_bit x i h = let e : 64 + (63 - i) ≡ 127 - i = omega arith in ap (λ z. z % 2) (shr-shr x 64 (63 - i) ∙ ap (λ n. x / 2 ^ n) e)

pub bottom_bit : (x i : ℕ) → i < 64 → x % 2 ^ 64 / 2 ^ (63 - i) % 2 ≡ x / 2 ^ (127 - (64 + i)) % 2
bottom_bit x i h =
    let e : 63 - i ≡ 127 - (64 + i) = omega arith in
    sym (bit_at_cat_low (x / 2 ^ 64) 64 (x % 2 ^ 64) (63 - i) (omega arith)) ∙ ap (λ z. z / 2 ^ (63 - i) % 2) (let p : x / 2 ^ 64 * 2 ^ 64 + x % 2 ^ 64 ≡ x = omega arith in p) ∙ ap (λ n. x / 2 ^ n % 2) e

pub multiple_more : (y i v w : ℕ) → v ≡ multiple y i → w ≡ times_x v → w ≡ multiple y (i + 1)
unfolding multiple
multiple_more y i v w e f = rw add-one (f ∙ ap times_x e)

pub multiple_none : (y : ℕ) → y ≡ multiple y 0
unfolding multiple
multiple_none y = refl

pub table_more : (high low : List ℕ) (y i v hi lo : ℕ) → length high ≡ 128 → length low ≡ 128 → i < 128
    → ((k : ℕ) → k < i → get_or high k 0 * 2 ^ 64 + get_or low k 0 ≡ multiple y k) → v ≡ multiple y i → hi ≡ v / 2 ^ 64 → lo ≡ v % 2 ^ 64
    → (k : ℕ) → k < i + 1 → get_or (set high i hi) k 0 * 2 ^ 64 + get_or (set low i lo) k 0 ≡ multiple y k
table_more high low y i v hi lo lh ll h before e eh el k hk = elim (cases_lt k i) [
  | inl lt ↦ let ne : k ≢ i = omega arith in rw (get_or-set_other, get_or-set_other) (before k lt)
  | inr ge ↦
      let same : k ≡ i = omega arith in
      let ih : i < length high = omega arith in
      let il : i < length low = omega arith in
      let whole : v / 2 ^ 64 * 2 ^ 64 + v % 2 ^ 64 ≡ v = omega arith in
      rw (same, get_or-set_same, get_or-set_same, eh, el) (whole ∙ e)
]

pub multiples_sum_none : (x y : ℕ) → 0 * 2 ^ 64 + 0 ≡ multiples_sum x y 0
unfolding multiples_sum
multiples_sum_none x y = refl

pub multiples_sum_all : (x y n z : ℕ) → n ≡ 128 → z ≡ multiples_sum x y n → z ≡ product x y
unfolding product
multiples_sum_all x y n z e f = f ∙ ap (multiples_sum x y) e

pub multiples_sum_more : (x y i bit high low hi lo : ℕ) → low < 2 ^ 64 → bit * lo < 2 ^ 64 → bit < 2 → bit ≡ x / 2 ^ (127 - i) % 2 → hi * 2 ^ 64 + lo ≡ multiple y i
    → high * 2 ^ 64 + low ≡ multiples_sum x y i
    → bit_xor high (bit * hi) * 2 ^ 64 + bit_xor low (bit * lo) ≡ multiples_sum x y (suc i)
unfolding multiples_sum
multiples_sum_more x y i bit high low hi lo hl hb h2 eb ed es =
    sym (both_xor high low (bit * hi) (bit * lo) hl hb) ∙ ap (λ z. bit_xor z ((bit * hi) * 2 ^ 64 + bit * lo)) es
    ∙ ap (bit_xor (multiples_sum x y i)) (sym (times_split bit hi lo (multiple y i) h2 ed) ∙ ap (λ z. z * multiple y i) eb)

below_twice : (n v : ℕ) → n < 2 → v < 2 ^ 64 → n * v < 2 ^ 64
below_twice zero v h k = omega arith
below_twice (suc zero) v h k = omega arith
below_twice (suc (suc n)) v h k = absurd (omega arith)

pub multiples_sum_next : (x y i j bit_hi bit_lo bit high low hi lo : ℕ) → low < 2 ^ 64 → lo < 2 ^ 64 → bit_hi ≡ bit % 2 * hi → bit_lo ≡ bit % 2 * lo → bit % 2 ≡ x / 2 ^ (127 - i) % 2
    → hi * 2 ^ 64 + lo ≡ multiple y i → high * 2 ^ 64 + low ≡ multiples_sum x y i → suc i ≡ j
    → bit_xor high bit_hi * 2 ^ 64 + bit_xor low bit_lo ≡ multiples_sum x y j
multiples_sum_next x y i j bit_hi bit_lo bit high low hi lo hl hlo eh el eb ed es ej =
    let small : bit % 2 * lo < 2 ^ 64 = below_twice (bit % 2) lo (omega arith) hlo in
    ap (λ z. bit_xor high z * 2 ^ 64 + bit_xor low bit_lo) eh ∙ ap (λ z. bit_xor high (bit % 2 * hi) * 2 ^ 64 + bit_xor low z) el
    ∙ multiples_sum_more x y i (bit % 2) high low hi lo hl small (omega arith) eb ed es ∙ ap (multiples_sum x y) ej

pub words_joined : (high low : ℕ) → high < 2 ^ 64 → low < 2 ^ 64 → bit_or (high * 18446744073709551616 % 340282366920938463463374607431768211456) low ≡ high * 2 ^ 64 + low
words_joined high low h l =
    let e : high * 18446744073709551616 % 340282366920938463463374607431768211456 ≡ high * 2 ^ 64 = omega arith in
    ap (λ z. bit_or z low) e ∙ or_shifted high 64 low l

-- ---- the word whose highest bit comes next

pub up_none : (w : ℕ) → w < 2 ^ 64 → w ≡ up 0 w
unfolding up
up_none w h = omega arith

pub up_next : (k w t : ℕ) → t ≡ up k w → t * 2 % 2 ^ 64 ≡ up (k + 1) w
unfolding up
up_next k w t e =
    let p : w * 2 ^ (k + 1) ≡ w * 2 ^ k * 2 = ap (λ n. w * 2 ^ n) (add-one k) ∙ ap (λ n. w * n) (pow-suc 2 k) ∙ sym (mul_assoc w (2 ^ k) 2) in
    ap (λ z. z * 2 % 2 ^ 64) e ∙ (let q : w * 2 ^ k % 2 ^ 64 * 2 % 2 ^ 64 ≡ w * 2 ^ k * 2 % 2 ^ 64 = omega arith in q) ∙ ap (λ z. z % 2 ^ 64) (sym p)

pub up_top : (k w t : ℕ) → k < 64 → t ≡ up k w → t / 2 ^ 63 % 2 ≡ w / 2 ^ (63 - k) % 2
up_top k w t h e = ap (λ z. z / 2 ^ 63 % 2) e ∙ bit_at-up_mid k w 63 (omega arith) (omega arith)

pub copies_more : (words : List ℕ) (x i rest new : ℕ) → length words ≡ 128 → i < 128
    → ((k : ℕ) → k < i → get_or words k 0 ≡ x / 2 ^ (127 - k) % 2 * 0xFFFFFFFFFFFFFFFF) → rest / 2 ^ 63 % 2 ≡ x / 2 ^ (127 - i) % 2 → rest < 2 ^ 64
    → new ≡ (0 + (18446744073709551616 - rest / 2 ^ 63)) % 18446744073709551616
    → (k : ℕ) → k < i + 1 → get_or (set words i new) k 0 ≡ x / 2 ^ (127 - k) % 2 * 0xFFFFFFFFFFFFFFFF
copies_more words x i rest new long h before bit small en k hk = elim (cases_lt k i) [
  | inl lt ↦ let ne : k ≢ i = omega arith in rw get_or-set_other (before k lt)
  | inr ge ↦
      let same : k ≡ i = omega arith in
      let il : i < length words = omega arith in
      let b : rest / 2 ^ 63 ≡ x / 2 ^ (127 - i) % 2 = omega arith in
      rw (same, get_or-set_same) (en ∙ copies_of (rest / 2 ^ 63) (omega arith) ∙ ap (λ n. n * 0xFFFFFFFFFFFFFFFF) b)
]
