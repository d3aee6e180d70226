-- Rounds on four blocks in slices.
use Rattle.std.proofs.Common.{◌≡◌, ℕ, zero, suc, ◌+◌, ◌-◌, ◌*◌, ◌<◌, ◌^◌, ◌%◌, ◌/◌, true, ◌==◌, List, [], ◌∷◌, length, refl, ap, sym, ◌∙◌, arith, eqb-true, subst}
use Rattle.std.specs.Prelude.{bit_xor, slice_index}
use Rattle.std.specs.Int.{bit_at}
use Rattle.std.proofs.lemmas.Nat.{shr-shr}
use Rattle.std.proofs.lemmas.Nat.Bits.{bit_at_cat_low}
use Rattle.aes128gcm.proofs.AllBelow.{all_below, all_below-at}
use Rattle.aes128gcm.specs.Aes.{s_box, sub_bytes, shift_rows, mix, mix_columns, xor_with, add_round_key, full_round, last_round, rounds, round_key, cipher}
use Rattle.aes128gcm.proofs.Streams.{length-xor_with}
use Rattle.aes128gcm.specs.Lanes.{number, lane, place, Holds}

index-xor_with : (s k : List ℕ) (n : ℕ) → n < length s → n < length k → slice_index (xor_with s k) n ≡ bit_xor (slice_index s n) (slice_index k n)
index-xor_with [] k n h j = absurd (omega arith)
index-xor_with (x ∷ s) [] n h j = absurd (omega arith)
index-xor_with (x ∷ s) (y ∷ k) zero h j = refl
index-xor_with (x ∷ s) (y ∷ k) (suc n) h j = index-xor_with s k n (omega arith) (omega arith)

pub holds-xor : (q w r : List ℕ) (b : ℕ) (s key : List ℕ) → Holds q b s → Holds w b key → ((i : ℕ) → lane r i ≡ bit_xor (lane q i) (lane w i)) → Holds r b (xor_with s key)
holds-xor q w r b s key hs hk re = (
  length-xor_with s key ∙ hs.0,
  λ k h. re (place b k) ∙ ap (λ x. bit_xor x (lane w (place b k))) (hs.1 k h) ∙ ap (bit_xor (slice_index s k)) (hk.1 k h)
      ∙ sym (index-xor_with s key k (let e = hs.0 in omega arith) (let e = hk.0 in omega arith)),
)

index-sub_bytes : (s : List ℕ) (n : ℕ) → n < length s → slice_index (sub_bytes s) n ≡ s_box (slice_index s n)
unfolding sub_bytes
index-sub_bytes [] n h = absurd (omega arith)
index-sub_bytes (x ∷ s) zero h = refl
index-sub_bytes (x ∷ s) (suc n) h = index-sub_bytes s n (omega arith)

length-sub_bytes : (s : List ℕ) → length (sub_bytes s) ≡ length s
unfolding sub_bytes
length-sub_bytes [] = refl
length-sub_bytes (x ∷ s) = ap suc (length-sub_bytes s)

-- SUBBYTES alone
pub holds-sub_bytes : (q u : List ℕ) (b : ℕ) (s : List ℕ) → b < 4 → Holds q b s → ((i : ℕ) → i < 64 → lane u i ≡ s_box (lane q i)) → Holds u b (sub_bytes s)
holds-sub_bytes q u b s hb hs su = (
  length-sub_bytes s ∙ hs.0,
  λ k h. su (place b k) (omega arith) ∙ ap s_box (hs.1 k h) ∙ sym (index-sub_bytes s k (let e = hs.0 in omega arith)),
)

-- the byte that SHIFTROWS brings to row r + j of the column of byte k
abbrev from : ℕ → ℕ → ℕ
from k j = (4 * (k / 4) + 5 * ((k % 4 + j) % 4)) % 16

abbrev columns : List ℕ → List ℕ
columns s = mix_columns (shift_rows (sub_bytes s))

abbrev last_columns : List ℕ → List ℕ
last_columns s = shift_rows (sub_bytes s)

abbrev come : List ℕ → ℕ → ℕ → ℕ
come s k j = slice_index (sub_bytes s) (from k j)

columns_at : (s : List ℕ) (k : ℕ) → k < 16 → slice_index (columns s) k ≡ mix (come s k 0) (come s k 1) (come s k 2) (come s k 3)
unfolding mix_columns shift_rows
columns_at s zero h = refl
columns_at s (suc zero) h = refl
columns_at s (suc (suc zero)) h = refl
columns_at s (suc (suc (suc zero))) h = refl
columns_at s (suc (suc (suc (suc zero)))) h = refl
columns_at s (suc (suc (suc (suc (suc zero))))) h = refl
columns_at s (suc (suc (suc (suc (suc (suc zero)))))) h = refl
columns_at s (suc (suc (suc (suc (suc (suc (suc zero))))))) h = refl
columns_at s (suc (suc (suc (suc (suc (suc (suc (suc zero)))))))) h = refl
columns_at s (suc (suc (suc (suc (suc (suc (suc (suc (suc zero))))))))) h = refl
columns_at s (suc (suc (suc (suc (suc (suc (suc (suc (suc (suc zero)))))))))) h = refl
columns_at s (suc (suc (suc (suc (suc (suc (suc (suc (suc (suc (suc zero))))))))))) h = refl
columns_at s (suc (suc (suc (suc (suc (suc (suc (suc (suc (suc (suc (suc zero)))))))))))) h = refl
columns_at s (suc (suc (suc (suc (suc (suc (suc (suc (suc (suc (suc (suc (suc zero))))))))))))) h = refl
columns_at s (suc (suc (suc (suc (suc (suc (suc (suc (suc (suc (suc (suc (suc (suc zero)))))))))))))) h = refl
columns_at s (suc (suc (suc (suc (suc (suc (suc (suc (suc (suc (suc (suc (suc (suc (suc zero))))))))))))))) h = refl
columns_at s (suc (suc (suc (suc (suc (suc (suc (suc (suc (suc (suc (suc (suc (suc (suc (suc k)))))))))))))))) h = absurd (omega arith)

last_columns_at : (s : List ℕ) (k : ℕ) → k < 16 → slice_index (last_columns s) k ≡ come s k 0
unfolding shift_rows
last_columns_at s zero h = refl
last_columns_at s (suc zero) h = refl
last_columns_at s (suc (suc zero)) h = refl
last_columns_at s (suc (suc (suc zero))) h = refl
last_columns_at s (suc (suc (suc (suc zero)))) h = refl
last_columns_at s (suc (suc (suc (suc (suc zero))))) h = refl
last_columns_at s (suc (suc (suc (suc (suc (suc zero)))))) h = refl
last_columns_at s (suc (suc (suc (suc (suc (suc (suc zero))))))) h = refl
last_columns_at s (suc (suc (suc (suc (suc (suc (suc (suc zero)))))))) h = refl
last_columns_at s (suc (suc (suc (suc (suc (suc (suc (suc (suc zero))))))))) h = refl
last_columns_at s (suc (suc (suc (suc (suc (suc (suc (suc (suc (suc zero)))))))))) h = refl
last_columns_at s (suc (suc (suc (suc (suc (suc (suc (suc (suc (suc (suc zero))))))))))) h = refl
last_columns_at s (suc (suc (suc (suc (suc (suc (suc (suc (suc (suc (suc (suc zero)))))))))))) h = refl
last_columns_at s (suc (suc (suc (suc (suc (suc (suc (suc (suc (suc (suc (suc (suc zero))))))))))))) h = refl
last_columns_at s (suc (suc (suc (suc (suc (suc (suc (suc (suc (suc (suc (suc (suc (suc zero)))))))))))))) h = refl
last_columns_at s (suc (suc (suc (suc (suc (suc (suc (suc (suc (suc (suc (suc (suc (suc (suc zero))))))))))))))) h = refl
last_columns_at s (suc (suc (suc (suc (suc (suc (suc (suc (suc (suc (suc (suc (suc (suc (suc (suc k)))))))))))))))) h = absurd (omega arith)

length-columns : (s : List ℕ) → length (columns s) ≡ 16
unfolding mix_columns
length-columns s = refl

length-last_columns : (s : List ℕ) → length (last_columns s) ≡ 16
unfolding shift_rows
length-last_columns s = refl

abbrev row_place : ℕ → ℕ
row_place i = 16 * (i / 16) + (i + 4 * (i / 16)) % 16

-- where each byte comes from, by computation
all_moved : all_below (λ b. all_below (λ k. all_below (λ j. row_place ((place b k + 16 * j) % 64) == place b (from k j)) 4) 16) 4 ≡ true
unfolding all_below
all_moved = refl

moved : (b k j : ℕ) → b < 4 → k < 16 → j < 4 → row_place ((place b k + 16 * j) % 64) ≡ place b (from k j)
moved b k j hb hk hj =
    let p = all_below-at (λ b. all_below (λ k. all_below (λ j. row_place ((place b k + 16 * j) % 64) == place b (from k j)) 4) 16) 4 b all_moved hb in
    let q = all_below-at (λ k. all_below (λ j. row_place ((place b k + 16 * j) % 64) == place b (from k j)) 4) 16 k p hk in
    eqb-true _ _ (all_below-at (λ j. row_place ((place b k + 16 * j) % 64) == place b (from k j)) 4 j q hj)

row : (q u t : List ℕ) (b : ℕ) (s : List ℕ) (k j : ℕ) → b < 4 → k < 16 → j < 4 → Holds q b s
    → ((i : ℕ) → i < 64 → lane u i ≡ s_box (lane q i))
    → ((i : ℕ) → i < 64 → lane t i ≡ lane u (row_place i))
    → lane t ((place b k + 16 * j) % 64) ≡ come s k j
row q u t b s k j hb hk hj hs su sh =
    let in_block : from k j < 16 = omega arith in
    let in_word : place b (from k j) < 64 = omega arith in
    sh ((place b k + 16 * j) % 64) (omega arith) ∙ ap (lane u) (moved b k j hb hk hj) ∙ su (place b (from k j)) in_word ∙ ap s_box (hs.1 (from k j) in_block) ∙ sym (index-sub_bytes s (from k j) (let e = hs.0 in omega arith))

pub holds-columns : (q u t m : List ℕ) (b : ℕ) (s : List ℕ) → b < 4 → Holds q b s
    → ((i : ℕ) → i < 64 → lane u i ≡ s_box (lane q i))
    → ((i : ℕ) → i < 64 → lane t i ≡ lane u (row_place i))
    → ((i : ℕ) → i < 64 → lane m i ≡ mix (lane t i) (lane t ((i + 16) % 64)) (lane t ((i + 32) % 64)) (lane t ((i + 48) % 64)))
    → Holds m b (columns s)
holds-columns q u t m b s hb hs su sh mi = (
  length-columns s,
  λ k h.
      let at : (place b k + 16 * 0) % 64 ≡ place b k = omega arith in
      let r0 : lane t (place b k) ≡ come s k 0 = ap (lane t) (sym at) ∙ row q u t b s k 0 hb h (omega arith) hs su sh in
      let r1 : lane t ((place b k + 16) % 64) ≡ come s k 1 = row q u t b s k 1 hb h (omega arith) hs su sh in
      let r2 : lane t ((place b k + 32) % 64) ≡ come s k 2 = row q u t b s k 2 hb h (omega arith) hs su sh in
      let r3 : lane t ((place b k + 48) % 64) ≡ come s k 3 = row q u t b s k 3 hb h (omega arith) hs su sh in
      mi (place b k) (omega arith) ∙ ap (λ x. mix x (lane t ((place b k + 16) % 64)) (lane t ((place b k + 32) % 64)) (lane t ((place b k + 48) % 64))) r0
      ∙ ap (λ x. mix (come s k 0) x (lane t ((place b k + 32) % 64)) (lane t ((place b k + 48) % 64))) r1
      ∙ ap (λ x. mix (come s k 0) (come s k 1) x (lane t ((place b k + 48) % 64))) r2
      ∙ ap (λ x. mix (come s k 0) (come s k 1) (come s k 2) x) r3 ∙ sym (columns_at s k h),
)

pub holds-last_columns : (q u t : List ℕ) (b : ℕ) (s : List ℕ) → b < 4 → Holds q b s
    → ((i : ℕ) → i < 64 → lane u i ≡ s_box (lane q i))
    → ((i : ℕ) → i < 64 → lane t i ≡ lane u (row_place i))
    → Holds t b (last_columns s)
holds-last_columns q u t b s hb hs su sh = (
  length-last_columns s,
  λ k h.
      let at : (place b k + 16 * 0) % 64 ≡ place b k = omega arith in
      ap (lane t) (sym at) ∙ row q u t b s k 0 hb h (omega arith) hs su sh ∙ sym (last_columns_at s k h),
)

pub holds-full : (q u t m r w : List ℕ) (b : ℕ) (s key : List ℕ) → b < 4 → Holds q b s → Holds w b key
    → ((i : ℕ) → i < 64 → lane u i ≡ s_box (lane q i))
    → ((i : ℕ) → i < 64 → lane t i ≡ lane u (row_place i))
    → ((i : ℕ) → i < 64 → lane m i ≡ mix (lane t i) (lane t ((i + 16) % 64)) (lane t ((i + 32) % 64)) (lane t ((i + 48) % 64)))
    → ((i : ℕ) → lane r i ≡ bit_xor (lane m i) (lane w i))
    → Holds r b (full_round s key)
unfolding full_round add_round_key
holds-full q u t m r w b s key hb hs hk su sh mi re = holds-xor m w r b (columns s) key (holds-columns q u t m b s hb hs su sh mi) hk re

pub holds-last : (q u t r w : List ℕ) (b : ℕ) (s key : List ℕ) → b < 4 → Holds q b s → Holds w b key
    → ((i : ℕ) → i < 64 → lane u i ≡ s_box (lane q i))
    → ((i : ℕ) → i < 64 → lane t i ≡ lane u (row_place i))
    → ((i : ℕ) → lane r i ≡ bit_xor (lane t i) (lane w i))
    → Holds r b (last_round s key)
unfolding last_round add_round_key
holds-last q u t r w b s key hb hs hk su sh re = holds-xor t w r b (last_columns s) key (holds-last_columns q u t b s hb hs su sh) hk re

pub holds-first : (q : List ℕ) (b : ℕ) (key s : List ℕ) → Holds q b (add_round_key s key) → Holds q b (rounds key s 0)
unfolding rounds
holds-first q b key s h = h

pub holds-next : (q : List ℕ) (b : ℕ) (key s : List ℕ) (i : ℕ) → 1 < i + 1 → Holds q b (full_round (rounds key s (i - 1)) (round_key key i)) → Holds q b (rounds key s (i + 1 - 1))
unfolding rounds
holds-next q b key s zero one h = absurd (omega arith)
holds-next q b key s (suc i) one h =
    let p : suc i + 1 - 1 ≡ suc i = omega arith in
    let o : suc i - 1 ≡ i = omega arith in
    subst (λ n. Holds q b (rounds key s n)) (sym p) (subst (λ n. Holds q b (full_round (rounds key s n) (round_key key (suc i)))) o h)

pub holds-done : (q : List ℕ) (b : ℕ) (key s : List ℕ) (i : ℕ) → i ≡ 10 → Holds q b (last_round (rounds key s (i - 1)) (round_key key 10)) → Holds q b (cipher key s)
unfolding cipher
holds-done q b key s i e h =
    let o : i - 1 ≡ 9 = omega arith in
    subst (λ n. Holds q b (last_round (rounds key s n) (round_key key 10))) o h

-- ---- in and out

pub number_of_byte : (n : ℕ) → n < 256 → number (bit_at n 0 ∷ bit_at n 1 ∷ bit_at n 2 ∷ bit_at n 3 ∷ bit_at n 4 ∷ bit_at n 5 ∷ bit_at n 6 ∷ bit_at n 7 ∷ []) ≡ n
number_of_byte n h = omega arith

-- bit t of byte m
pub bit_of_byte : (w m t : ℕ) → t < 8 → bit_at w (8 * m + t) ≡ bit_at (w / 2 ^ (8 * m) % 256) t
bit_of_byte w m t h =
    let v = w / 2 ^ (8 * m) in
    sym (ap (λ x. x % 2) (shr-shr w (8 * m) t)) ∙ ap (λ z. bit_at z t) (let e : w / 2 ^ (8 * m) ≡ w / 2 ^ (8 * m) / 256 * 2 ^ 8 + w / 2 ^ (8 * m) % 256 = omega arith in e)
    ∙ bit_at_cat_low (w / 2 ^ (8 * m) / 256) 8 (w / 2 ^ (8 * m) % 256) t h
