-- GHASH of texts one after another.
use Rattle.std.proofs.Common.{◌≡◌, ℕ, zero, suc, ◌+◌, ◌-◌, ◌*◌, ◌/◌, ◌<◌, ◌≤◌, List, ◌++◌, length, take, drop, replicate, ap, sym, ◌∙◌, refl, arith, length-append, length-drop, append-nil, append_assoc, add-one, min}
use Rattle.std.specs.Prelude.{bit_xor}
use Rattle.std.specs.Int.{w128, from_be_bytes, div_ceil}
use Rattle.std.proofs.Math.Seq.{drop-append-add}
use Rattle.std.proofs.lemmas.List.{take-append-le, drop-append-le, take_all, length-replicate, length-take-le}
use Rattle.std.proofs.lemmas.Bool.{cases_lt}
use Rattle.std.proofs.Common.{inl, inr}
use Rattle.aes128gcm.specs.Gcm.{product, block, absorb, ghash, pad, bit_length, hash_input}
use Rattle.aes128gcm.specs.Parts.{block_number, absorb_padded}

-- ---- a text behind another

block-front : (x y : List ℕ) (i : ℕ) → 16 * i + 16 ≤ length x → block (x ++ y) i ≡ block x i
unfolding block
block-front x y i h =
    let n = length-drop (16 * i) x in
    let k : 16 * i ≤ length x = omega arith in
    let m : 16 ≤ length (drop (16 * i) x) = omega arith in
    rw (drop-append-le (16 * i) x y k, take-append-le 16 (drop (16 * i) x) y m) refl

block-back : (x y : List ℕ) (n i : ℕ) → length x ≡ 16 * n → block (x ++ y) (n + i) ≡ block y i
unfolding block
block-back x y n i e =
    let k : 16 * (n + i) ≡ length x + 16 * i = omega arith in
    rw (k, drop-append-add x y (16 * i)) refl

absorb-front : (h from : ℕ) (x y : List ℕ) (i : ℕ) → 16 * i ≤ length x → absorb h from (x ++ y) i ≡ absorb h from x i
unfolding absorb
absorb-front h from x y zero le = refl
absorb-front h from x y (suc i) le = rw (absorb-front h from x y i (omega arith), block-front x y i (omega arith)) refl

absorb-append : (h from : ℕ) (x y : List ℕ) (n i : ℕ) → length x ≡ 16 * n → absorb h from (x ++ y) (n + i) ≡ absorb h (absorb h from x n) y i
unfolding absorb
absorb-append h from x y n zero e = let z : n + zero ≡ n = omega arith in ap (absorb h from (x ++ y)) z ∙ absorb-front h from x y n (omega arith)
absorb-append h from x y n (suc i) e =
    let s : n + suc i ≡ suc (n + i) = omega arith in
    ap (absorb h from (x ++ y)) s ∙ rw (absorb-append h from x y n i e, block-back x y n i e) refl

-- ---- padding

pub length-pad : (x : List ℕ) → length (pad x) ≡ 16 * div_ceil (length x) 16
unfolding pad
length-pad x = omega (arith, length-append x (replicate (16 * div_ceil (length x) 16 - length x) 0), length-replicate {A = ℕ} (16 * div_ceil (length x) 16 - length x) 0)

pad-whole : (x : List ℕ) → length x ≡ 16 → pad x ≡ x
unfolding pad
pad-whole x e = rw e (append-nil x)

-- a block of a padded text, by its bytes
pad-part : (x : List ℕ) (i : ℕ) → i < div_ceil (length x) 16
    → take 16 (drop (16 * i) (pad x)) ≡ take 16 (drop (16 * i) x) ++ replicate (16 - length (take 16 (drop (16 * i) x))) 0
unfolding pad
pad-part x i h =
    let n = length-drop (16 * i) x in
    let k : 16 * i ≤ length x = omega arith in
    elim (cases_lt (length x) (16 * i + 16)) [
      | inl last ↦
          let all : length (drop (16 * i) x) ≤ 16 = omega arith in
          let zeros : 16 * div_ceil (length x) 16 - length x ≡ 16 - length (drop (16 * i) x) = omega arith in
          let whole : length (drop (16 * i) x ++ replicate (16 - length (drop (16 * i) x)) 0) ≤ 16
          = omega (arith, length-append (drop (16 * i) x) (replicate (16 - length (drop (16 * i) x)) 0), length-replicate {A = ℕ} (16 - length (drop (16 * i) x)) 0) in
          ap (λ z. take 16 (drop (16 * i) (x ++ replicate z 0))) zeros ∙ ap (take 16) (drop-append-le (16 * i) x (replicate (16 - length (drop (16 * i) x)) 0) k)
          ∙ take_all 16 (drop (16 * i) x ++ replicate (16 - length (drop (16 * i) x)) 0) whole
          ∙ ap (λ z. z ++ replicate (16 - length z) 0) (sym (take_all 16 (drop (16 * i) x) all))
      | inr full ↦
          let m : 16 ≤ length (drop (16 * i) x) = omega arith in
          let l : 16 - length (take 16 (drop (16 * i) x)) ≡ 0 = omega (arith, length-take-le 16 (drop (16 * i) x) m) in
          let rest : List ℕ = replicate (16 * div_ceil (length x) 16 - length x) 0 in
          ap (take 16) (drop-append-le (16 * i) x (replicate (16 * div_ceil (length x) 16 - length x) 0) k)
          ∙ take-append-le 16 (drop (16 * i) x) (replicate (16 * div_ceil (length x) 16 - length x) 0) m
          ∙ sym (append-nil (take 16 (drop (16 * i) x))) ∙ ap (λ z. take 16 (drop (16 * i) x) ++ replicate z 0) (sym l)
    ]

-- the bytes of a block, cut off where the text ends
pub cut-part : (x : List ℕ) (i e : ℕ) → i < div_ceil (length x) 16 → e ≡ min (length x) (16 * i + 16) → take (e - 16 * i) (drop (16 * i) x) ≡ take 16 (drop (16 * i) x)
cut-part x i e h f =
    let n = length-drop (16 * i) x in
    elim (cases_lt (length x) (16 * i + 16)) [
      | inl last ↦ take_all (e - 16 * i) (drop (16 * i) x) (omega arith) ∙ sym (take_all 16 (drop (16 * i) x) (omega arith))
      | inr full ↦ let k : e - 16 * i ≡ 16 = omega arith in ap (λ z. take z (drop (16 * i) x)) k
    ]

block-pad : (x : List ℕ) (i : ℕ) → i < div_ceil (length x) 16 → block (pad x) i ≡ block_number (take 16 (drop (16 * i) x))
unfolding block block_number
block-pad x i h = ap (from_be_bytes w128) (pad-part x i h)

pub block_number-whole : (b : List ℕ) → length b ≡ 16 → block_number b ≡ from_be_bytes w128 b
unfolding block_number
block_number-whole b e = ap (λ n. from_be_bytes w128 (b ++ replicate (16 - n) 0)) e ∙ ap (from_be_bytes w128) (append-nil b)

pub absorb_more : (h from y next b i : ℕ) (x part : List ℕ) → i < div_ceil (length x) 16 → y ≡ absorb h from (pad x) i → part ≡ take 16 (drop (16 * i) x)
    → b ≡ block_number part → next ≡ product (bit_xor y b) h → next ≡ absorb h from (pad x) (i + 1)
unfolding absorb
absorb_more h from y next b i x part lt e p f g =
    let at = block-pad x i lt in
    rw (add-one, ← e, at, ← p, ← f) g

pub absorb_all : (h from y n : ℕ) (x : List ℕ) → n ≡ div_ceil (length x) 16 → y ≡ absorb h from (pad x) n → y ≡ absorb_padded h from x
unfolding absorb_padded
absorb_all h from y n x e f = f ∙ ap (absorb h from (pad x)) e

-- ---- the input of a tag

length-bit_length : (x : List ℕ) → length (bit_length x) ≡ 8
unfolding bit_length
length-bit_length x = refl

absorb_padded-append : (h from : ℕ) (x y : List ℕ) (i : ℕ) → absorb h from (pad x ++ y) (div_ceil (length x) 16 + i) ≡ absorb h (absorb_padded h from x) y i
unfolding absorb_padded
absorb_padded-append h from x y i = absorb-append h from (pad x) y (div_ceil (length x) 16) i (length-pad x)

whole_blocks : (h from : ℕ) (x : List ℕ) → length x ≡ 16 → absorb_padded h from x ≡ absorb h from x 1
unfolding absorb_padded
whole_blocks h from x e = ap (λ n. absorb h from (pad x) (div_ceil n 16)) e ∙ ap (λ z. absorb h from z 1) (pad-whole x e)

regroup : (a b c d : List ℕ) → a ++ b ++ c ++ d ≡ a ++ (b ++ (c ++ d))
regroup a b c d = simp append_assoc

pub ghash-input : (h : ℕ) (aad ct : List ℕ) → absorb_padded h (absorb_padded h (absorb_padded h 0 aad) ct) (bit_length aad ++ bit_length ct) ≡ ghash h (hash_input aad ct)
unfolding ghash hash_input
ghash-input h aad ct =
    let la = length-pad aad in
    let lc = length-pad ct in
    let lengths : List ℕ = bit_length aad ++ bit_length ct in
    let ll : length (bit_length aad ++ bit_length ct) ≡ 16 = omega (arith, length-append (bit_length aad) (bit_length ct), length-bit_length aad, length-bit_length ct) in
    let n : length (pad aad ++ (pad ct ++ (bit_length aad ++ bit_length ct))) / 16 ≡ div_ceil (length aad) 16 + (div_ceil (length ct) 16 + 1)
    = omega (arith, length-append (pad aad) (pad ct ++ (bit_length aad ++ bit_length ct)), length-append (pad ct) (bit_length aad ++ bit_length ct)) in
    whole_blocks h (absorb_padded h (absorb_padded h 0 aad) ct) lengths ll
    ∙ sym (absorb_padded-append h (absorb_padded h 0 aad) ct lengths 1)
    ∙ sym (absorb_padded-append h 0 aad (pad ct ++ lengths) (div_ceil (length ct) 16 + 1))
    ∙ ap (absorb h 0 (pad aad ++ (pad ct ++ lengths))) (sym n)
    ∙ ap (λ z. absorb h 0 z (length z / 16)) (sym (regroup (pad aad) (pad ct) (bit_length aad) (bit_length ct)))

pub absorb_none : (h from : ℕ) (x : List ℕ) → from ≡ absorb h from x 0
unfolding absorb
absorb_none h from x = refl
