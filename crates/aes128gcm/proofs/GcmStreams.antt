-- GCTR block by block.
use Rattle.std.proofs.Common.{◌≡◌, ℕ, zero, suc, ◌+◌, ◌*◌, ◌%◌, ◌^◌, ◌<◌, List, ◌++◌, length, take, drop, ap, sym, ◌∙◌, refl, arith, add-one, length-append, ◌≤◌, ◌-◌, append-nil}
use Rattle.std.specs.Int.{w32, div_ceil, to_be_bytes}
use Rattle.std.proofs.lemmas.List.{drop_all, take_all, take_at, drop_at}
use Rattle.std.proofs.lemmas.Nat.{from_be_bytes-to_be_bytes_4}
use Rattle.aes128gcm.specs.Aes.{xor_with, cipher}
use Rattle.aes128gcm.specs.Gcm.{inc32, first_block, counter_block, key_stream, gctr, crypt}
use Rattle.aes128gcm.specs.Parts.{count_block}
use Rattle.aes128gcm.proofs.CipherLemmas.{length-cipher}
use Rattle.aes128gcm.proofs.Streams.{length-xor_with, xor_with-append}

-- ---- counter blocks

inc32-count_block : (nonce : List ℕ) (i : ℕ) → length nonce ≡ 12 → inc32 (count_block nonce i) ≡ count_block nonce (i + 1)
unfolding inc32 count_block
inc32-count_block nonce i e =
    let small : i % 2 ^ 32 < 2 ^ 32 = omega arith in
    let next : (i % 2 ^ 32 + 1) % 2 ^ 32 ≡ (i + 1) % 2 ^ 32 = omega arith in
    rw (take_at nonce (to_be_bytes w32 (i % 2 ^ 32)) 12 e, drop_at nonce (to_be_bytes w32 (i % 2 ^ 32)) 12 e, from_be_bytes-to_be_bytes_4 (i % 2 ^ 32) small, next) refl

pub first-count_block : (nonce : List ℕ) → first_block nonce ≡ count_block nonce 1
unfolding first_block count_block
first-count_block nonce = refl

pub counter-count_block : (nonce : List ℕ) (i : ℕ) → length nonce ≡ 12 → counter_block (inc32 (first_block nonce)) i ≡ count_block nonce (i + 2)
unfolding counter_block
counter-count_block nonce zero e = ap inc32 (first-count_block nonce) ∙ inc32-count_block nonce 1 e
counter-count_block nonce (suc i) e =
    let n : i + 2 + 1 ≡ suc i + 2 = omega arith in
    ap inc32 (counter-count_block nonce i e) ∙ inc32-count_block nonce (i + 2) e ∙ ap (count_block nonce) n

-- ---- the key stream

pub length-key_stream : (key icb : List ℕ) (n : ℕ) → length (key_stream key icb n) ≡ 16 * n
unfolding key_stream
length-key_stream key icb zero = refl
length-key_stream key icb (suc n) =
    omega (arith, length-append (key_stream key icb n) (cipher key (counter_block icb n)), length-key_stream key icb n, length-cipher key (counter_block icb n))

stream_more : (key icb text now block new : List ℕ) (i : ℕ) → now ≡ xor_with text (key_stream key icb i) → block ≡ cipher key (counter_block icb i)
    → new ≡ take (16 * i) now ++ xor_with (drop (16 * i) now) block
    → new ≡ xor_with text (key_stream key icb (i + 1))
unfolding key_stream
stream_more key icb text now block new i e b w =
    let parts = xor_with-append text (key_stream key icb i) block in
    let n = length-key_stream key icb i in
    rw (add-one, ← b, parts, n, ← e) w

stream_at : (key nonce block text now new : List ℕ) (i n s : ℕ) → length nonce ≡ 12 → block ≡ cipher key (count_block nonce n) → n ≡ i + 2 → s ≡ 16 * i
    → now ≡ xor_with text (key_stream key (inc32 (first_block nonce)) i) → new ≡ take s now ++ xor_with (drop s now) block
    → new ≡ xor_with text (key_stream key (inc32 (first_block nonce)) (i + 1))
stream_at key nonce block text now new i n s l b en es e w =
    stream_more key (inc32 (first_block nonce)) text now block new i e
    (b ∙ ap (λ k. cipher key (count_block nonce k)) en ∙ ap (cipher key) (sym (counter-count_block nonce i l)))
    (w ∙ ap (λ k. take k now ++ xor_with (drop k now) block) es)

pub stream_four : (key nonce text t0 t1 t2 t3 t4 a b c d : List ℕ) (i : ℕ) → length nonce ≡ 12
    → t0 ≡ xor_with text (key_stream key (inc32 (first_block nonce)) (4 * i))
    → a ≡ cipher key (count_block nonce (4 * i + 2)) → b ≡ cipher key (count_block nonce (4 * i + 3))
    → c ≡ cipher key (count_block nonce (4 * i + 4)) → d ≡ cipher key (count_block nonce (4 * i + 5))
    → t1 ≡ take (64 * i) t0 ++ xor_with (drop (64 * i) t0) a → t2 ≡ take (64 * i + 16) t1 ++ xor_with (drop (64 * i + 16) t1) b
    → t3 ≡ take (64 * i + 32) t2 ++ xor_with (drop (64 * i + 32) t2) c → t4 ≡ take (64 * i + 48) t3 ++ xor_with (drop (64 * i + 48) t3) d
    → t4 ≡ xor_with text (key_stream key (inc32 (first_block nonce)) (4 * (i + 1)))
stream_four key nonce text t0 t1 t2 t3 t4 a b c d i l e fa fb fc fd w1 w2 w3 w4 =
    let n2 : 4 * i + 1 + 1 ≡ 4 * i + 2 = omega arith in
    let n3 : 4 * i + 2 + 1 ≡ 4 * i + 3 = omega arith in
    let n4 : 4 * i + 3 + 1 ≡ 4 * (i + 1) = omega arith in
    let e1 = stream_at key nonce a text t0 t1 (4 * i) (4 * i + 2) (64 * i) l fa refl (omega arith) e w1 in
    let e2 = stream_at key nonce b text t1 t2 (4 * i + 1) (4 * i + 3) (64 * i + 16) l fb (omega arith) (omega arith) e1 w2 ∙ ap (λ n. xor_with text (key_stream key (inc32 (first_block nonce)) n)) n2 in
    let e3 = stream_at key nonce c text t2 t3 (4 * i + 2) (4 * i + 4) (64 * i + 32) l fc (omega arith) (omega arith) e2 w3 ∙ ap (λ n. xor_with text (key_stream key (inc32 (first_block nonce)) n)) n3 in
    stream_at key nonce d text t3 t4 (4 * i + 3) (4 * i + 5) (64 * i + 48) l fd (omega arith) (omega arith) e3 w4 ∙ ap (λ n. xor_with text (key_stream key (inc32 (first_block nonce)) n)) n4

-- blocks past the text play no part
xor_with-past : (text a b : List ℕ) → length text ≤ length a → xor_with text (a ++ b) ≡ xor_with text a
xor_with-past text a b h =
    let n = length-xor_with text a in
    xor_with-append text a b ∙ ap (λ z. take (length a) (xor_with text a) ++ xor_with z b) (drop_all (length a) (xor_with text a) (omega arith))
    ∙ append-nil _ ∙ take_all (length a) (xor_with text a) (omega arith)

one_past : (key icb text : List ℕ) (n : ℕ) → length text ≤ 16 * n → xor_with text (key_stream key icb (suc n)) ≡ xor_with text (key_stream key icb n)
unfolding key_stream
one_past key icb text n h = let l = length-key_stream key icb n in xor_with-past text (key_stream key icb n) (cipher key (counter_block icb n)) (omega arith)

past : (key icb text : List ℕ) (m d : ℕ) → length text ≤ 16 * m → xor_with text (key_stream key icb (d + m)) ≡ xor_with text (key_stream key icb m)
past key icb text m zero h = let z : zero + m ≡ m = omega arith in ap (λ n. xor_with text (key_stream key icb n)) z
past key icb text m (suc d) h =
    let s : suc d + m ≡ suc (d + m) = omega arith in
    let n = length-key_stream key icb (d + m) in
    ap (λ n. xor_with text (key_stream key icb n)) s ∙ one_past key icb text (d + m) (omega arith) ∙ past key icb text m d h

pub all_streamed : (key nonce text now : List ℕ) (n : ℕ) → now ≡ xor_with text (key_stream key (inc32 (first_block nonce)) n)
    → div_ceil (length text) 16 ≤ n → length text ≤ 16 * div_ceil (length text) 16 → now ≡ crypt key nonce text
unfolding crypt gctr
all_streamed key nonce text now n e h far =
    let p : n ≡ n - div_ceil (length text) 16 + div_ceil (length text) 16 = omega arith in
    e ∙ ap (λ k. xor_with text (key_stream key (inc32 (first_block nonce)) k)) p ∙ past key (inc32 (first_block nonce)) text (div_ceil (length text) 16) (n - div_ceil (length text) 16) far

-- one block alone
pub gctr-one : (key icb text : List ℕ) → length text ≡ 16 → xor_with text (cipher key icb) ≡ gctr key icb text
unfolding gctr key_stream counter_block
gctr-one key icb text e = rw e refl
