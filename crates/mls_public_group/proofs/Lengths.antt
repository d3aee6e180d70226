-- How long headers are, texts behind them, parts of a text, and contexts.
use Rattle.std.proofs.Common.{◌≡◌, ℕ, ◌+◌, ◌<◌, ◌≤◌, ◌^◌, Bool, true, false, cond, ltb, List, [], ◌∷◌, ◌++◌, length, ap, subst, ◌∙◌, arith, length-append}
use Rattle.std.specs.Int.{w16, w32, w64, to_be_bytes}
use Rattle.mls_wire.specs.Laws.{wide16, wide64}
use Rattle.mls_wire.specs.Reading.{uint, header, opaque}
use Rattle.mls_leaf.specs.GroupExtensions.{group_extensions}
use Rattle.mls_types.specs.GroupContext.{group_context}
use Rattle.mls_types.specs.declared.group_context.GroupContext.{GroupContext}
use Rattle.mls_public_group.specs.Short.{IsBelow, IsShortContext}

-- ---- parts

pub first_within : (xs ys : List ℕ) → length xs ≤ length (xs ++ ys)
first_within xs ys = omega (arith, length-append xs ys)

pub last_within : (xs ys : List ℕ) → length ys ≤ length (xs ++ ys)
last_within xs ys = omega (arith, length-append xs ys)

-- ---- numbers and headers

pub length-uint16 : (n : ℕ) → length (uint w16 n) ≡ 2
unfolding uint
length-uint16 n = wide16.len n

length-uint64 : (n : ℕ) → length (uint w64 n) ≡ 8
unfolding uint
length-uint64 n = wide64.len n

header_choice : (b : Bool) (x y : List ℕ) → length x ≤ 4 → length y ≤ 4 → length (cond b x y) ≤ 4
header_choice true x y h k = h
header_choice false x y h k = k

header_length : (n : ℕ) → length (header n) ≤ 4
unfolding header
header_length n = header_choice (ltb n 64) (n ∷ []) (cond (ltb n 16384) (to_be_bytes w16 (16384 + n)) (to_be_bytes w32 (2147483648 + n))) (omega arith)
    (header_choice (ltb n 16384) (to_be_bytes w16 (16384 + n)) (to_be_bytes w32 (2147483648 + n)) (omega arith) (omega arith))

-- a text behind its header
pub opaque_most : (text : List ℕ) → length (opaque text) ≤ length text + 4
opaque_most text = omega (arith, length-append (header (length text)) text, header_length (length text))

pub opaque_least : (text : List ℕ) → length text ≤ length (opaque text)
opaque_least text = omega (arith, length-append (header (length text)) text)

-- ---- contexts

-- seven parts in a row, each but four of few bytes
row_length : (a b c d e f g : List ℕ) → length a ≡ 2 → length b ≡ 2 → length d ≡ 8 → length c < 2 ^ 28 + 4 → length e < 2 ^ 27 + 4 → length f < 2 ^ 28 + 4 → length g < 2 ^ 27
    → length (a ++ (b ++ (c ++ (d ++ (e ++ (f ++ g)))))) < 2 ^ 29 + 2 ^ 28 + 28
row_length a b c d e f g ha hb hd hc he hf hg =
    omega (
      arith,
      length-append a (b ++ (c ++ (d ++ (e ++ (f ++ g))))),
      length-append b (c ++ (d ++ (e ++ (f ++ g)))),
      length-append c (d ++ (e ++ (f ++ g))),
      length-append d (e ++ (f ++ g)),
      length-append e (f ++ g),
      length-append f g,
    )

-- a context of short texts and extensions
pub context_length : (v : GroupContext) → length v.group_id < 2 ^ 28 → length v.tree_hash < 2 ^ 27 → length v.confirmed_transcript_hash < 2 ^ 28 → length (group_extensions.spell v.extensions) < 2 ^ 27
    → length (group_context.spell v) < 2 ^ 29 + 2 ^ 28 + 28
unfolding group_context
context_length v group tree confirmed list =
    row_length (uint w16 1) (uint w16 v.cipher_suite) (opaque v.group_id) (uint w64 v.epoch) (opaque v.tree_hash) (opaque v.confirmed_transcript_hash) (group_extensions.spell v.extensions)
    (length-uint16 1) (length-uint16 v.cipher_suite) (length-uint64 v.epoch)
    (omega (arith, opaque_most v.group_id)) (omega (arith, opaque_most v.tree_hash)) (omega (arith, opaque_most v.confirmed_transcript_hash)) list

-- a short context's texts and extensions are short
pub short_context : (g : GroupContext) → IsBelow (2 ^ 27) group_context g → IsShortContext g
unfolding group_context
short_context g is =
    let i : List ℕ = g.group_id in
    let h : List ℕ = g.tree_hash in
    let t : List ℕ = g.confirmed_transcript_hash in
    let e : List ℕ = uint w64 g.epoch in
    let list : List ℕ = group_extensions.spell g.extensions in
    let end : List ℕ = opaque t ++ list in
    let lengths : length (uint w16 1) + (length (uint w16 g.cipher_suite) + (length (opaque i) + (length e + (length (opaque h) + (length (opaque t) + length list))))) < 2 ^ 27 =
    subst (λ (k : ℕ). k < 2 ^ 27) (length-append (uint w16 1) (uint w16 g.cipher_suite ++ (opaque i ++ (e ++ (opaque h ++ end)))) ∙ ap (λ (k : ℕ). length (uint w16 1) + k) (length-append (uint w16 g.cipher_suite) (opaque i ++ (e ++ (opaque h ++ end))) ∙ ap (λ (k : ℕ). length (uint w16 g.cipher_suite) + k) (length-append (opaque i) (e ++ (opaque h ++ end)) ∙ ap (λ (k : ℕ). length (opaque i) + k) (length-append e (opaque h ++ end) ∙ ap (λ (k : ℕ). length e + k) (length-append (opaque h) end ∙ ap (λ (k : ℕ). length (opaque h) + k) (length-append (opaque t) list)))))) is.below in
    record {
      suite = is.fits.0;
      epoch = is.fits.1.1.0;
      group_id = omega (arith, length-append (header (length i)) i);
      tree_hash = omega (arith, length-append (header (length h)) h);
      confirmed = omega (arith, length-append (header (length t)) t);
      extensions = record { fits = is.fits.1.1.1.1.1; below = omega arith };
    }
