-- Laws of chunks with tops between them: an edit of one chunk, or of a top, is one of the whole list.
use Rattle.std.proofs.Common.{◌≡◌, ℕ, zero, suc, ◌+◌, ◌-◌, ◌*◌, ◌/◌, ◌%◌, ◌<◌, ◌≤◌, List, [], ◌∷◌, ◌++◌, length, get_or, take, set, refl, sym, ◌∙◌, ap, arith, inl, inr, length-append, append_assoc}
use Rattle.std.proofs.Math.Seq.{take-append-add}
use Rattle.std.proofs.lemmas.Bool.{cases_lt}
use Rattle.std.proofs.lemmas.List.{get_or_append_left, get_or-append-add, get_or_at, set_at, set-append_left, set-append_right, take-append-le, take-take, length-take-le, get_or-take}
use Rattle.mls_tree_cells.specs.Parts.{interleave, AreSpread}

-- ---- how many there are

module _ {A : Type 0} where
  pub chunk_count : (bs : List (List A)) (ts : List A) → AreSpread bs ts → length bs ≡ suc (length ts)
  chunk_count [] ts are = absurd are
  chunk_count (b ∷ bs) [] are = ap (λ xs. suc (length xs)) are.0
  chunk_count (b ∷ bs) (t ∷ ts) are = ap suc (chunk_count bs ts are.1)

  -- a chunk with a top behind it is full
  pub full_at : (bs : List (List A)) (ts : List A) (k : ℕ) → AreSpread bs ts → k < length ts → length (get_or bs k []) ≡ 255
  full_at [] ts k are lt = absurd are
  full_at (b ∷ bs) [] k are lt = absurd (omega arith)
  full_at (b ∷ bs) (t ∷ ts) zero are lt = are.0
  full_at (b ∷ bs) (t ∷ ts) (suc k) are lt = full_at bs ts k are.1 (omega arith)

  pub last_few : (bs : List (List A)) (ts : List A) → AreSpread bs ts → length (get_or bs (length ts) []) ≤ 255
  last_few [] ts are = absurd are
  last_few (b ∷ bs) [] are = are.1
  last_few (b ∷ bs) (t ∷ ts) are = last_few bs ts are.1

  pub length_of : (bs : List (List A)) (ts : List A) → AreSpread bs ts → length (interleave bs ts) ≡ 256 * length ts + length (get_or bs (length ts) [])
  length_of [] ts are = absurd are
  length_of (b ∷ bs) [] are = omega arith
  length_of (b ∷ bs) (t ∷ ts) are =
      let rest = length_of bs ts are.1 in
      let full : length b ≡ 255 = are.0 in
      let more = length-append b (t ∷ interleave bs ts) in
      omega arith

-- ---- where an element stands

module _ {A : Type 0} (d : A) where
  get_in : (bs : List (List A)) (ts : List A) (k o : ℕ) → AreSpread bs ts → k < length bs → o < length (get_or bs k []) → get_or (interleave bs ts) (256 * k + o) d ≡ get_or (get_or bs k []) o d
  get_in [] ts k o are lt low = absurd are
  get_in (b ∷ bs) [] zero o are lt low =
      let at : 256 * 0 + o ≡ o = omega arith in
      ap (λ n. get_or b n d) at
  get_in (b ∷ bs) [] (suc k) o are lt low = let none = ap length are.0 in absurd (omega arith)
  get_in (b ∷ bs) (t ∷ ts) zero o are lt low =
      let at : 256 * 0 + o ≡ o = omega arith in
      ap (λ n. get_or (b ++ (t ∷ interleave bs ts)) n d) at ∙ get_or_append_left b (t ∷ interleave bs ts) d o low
  get_in (b ∷ bs) (t ∷ ts) (suc k) o are lt low =
      let full : length b ≡ 255 = are.0 in
      let at : 256 * suc k + o ≡ length b + suc (256 * k + o) = omega arith in
      ap (λ n. get_or (b ++ (t ∷ interleave bs ts)) n d) at
      ∙ get_or-append-add b (t ∷ interleave bs ts) (suc (256 * k + o)) d
      ∙ get_in bs ts k o are.1 (omega arith) low

  get_top : (bs : List (List A)) (ts : List A) (k : ℕ) → AreSpread bs ts → k < length ts → get_or (interleave bs ts) (256 * k + 255) d ≡ get_or ts k d
  get_top [] ts k are lt = absurd are
  get_top (b ∷ bs) [] k are lt = absurd (omega arith)
  get_top (b ∷ bs) (t ∷ ts) zero are lt =
      let full : length b ≡ 255 = are.0 in
      get_or_at b t (interleave bs ts) d (256 * 0 + 255) (omega arith)
  get_top (b ∷ bs) (t ∷ ts) (suc k) are lt =
      let full : length b ≡ 255 = are.0 in
      let at : 256 * suc k + 255 ≡ length b + suc (256 * k + 255) = omega arith in
      ap (λ n. get_or (b ++ (t ∷ interleave bs ts)) n d) at
      ∙ get_or-append-add b (t ∷ interleave bs ts) (suc (256 * k + 255)) d
      ∙ get_top bs ts k are.1 (omega arith)

-- ---- an element is replaced

module _ {A : Type 0} (y : A) where
  set_in : (bs : List (List A)) (ts : List A) (k o : ℕ) → AreSpread bs ts → k < length bs → o < length (get_or bs k []) → interleave (set bs k (set (get_or bs k []) o y)) ts ≡ set (interleave bs ts) (256 * k + o) y
  set_in [] ts k o are lt low = absurd are
  set_in (b ∷ bs) [] zero o are lt low =
      let at : o ≡ 256 * 0 + o = omega arith in
      ap (λ n. set b n y) at
  set_in (b ∷ bs) [] (suc k) o are lt low = let none = ap length are.0 in absurd (omega arith)
  set_in (b ∷ bs) (t ∷ ts) zero o are lt low =
      let at : o ≡ 256 * 0 + o = omega arith in
      sym (set-append_left b (t ∷ interleave bs ts) o y low) ∙ ap (λ n. set (b ++ (t ∷ interleave bs ts)) n y) at
  set_in (b ∷ bs) (t ∷ ts) (suc k) o are lt low =
      let full : length b ≡ 255 = are.0 in
      let at : suc (256 * k + o) ≡ (256 * suc k + o) - 255 = omega arith in
      ap (λ zs. b ++ (t ∷ zs)) (set_in bs ts k o are.1 (omega arith) low)
      ∙ ap (λ n. b ++ set (t ∷ interleave bs ts) n y) at
      ∙ sym (set-append_right b (t ∷ interleave bs ts) 255 (256 * suc k + o) y full (omega arith))

  set_top : (bs : List (List A)) (ts : List A) (k : ℕ) → AreSpread bs ts → k < length ts → interleave bs (set ts k y) ≡ set (interleave bs ts) (256 * k + 255) y
  set_top [] ts k are lt = absurd are
  set_top (b ∷ bs) [] k are lt = absurd (omega arith)
  set_top (b ∷ bs) (t ∷ ts) zero are lt =
      let full : length b ≡ 255 = are.0 in
      sym (set_at b t (interleave bs ts) y (256 * 0 + 255) (omega arith))
  set_top (b ∷ bs) (t ∷ ts) (suc k) are lt =
      let full : length b ≡ 255 = are.0 in
      let at : suc (256 * k + 255) ≡ (256 * suc k + 255) - 255 = omega arith in
      ap (λ zs. b ++ (t ∷ zs)) (set_top bs ts k are.1 (omega arith))
      ∙ ap (λ n. b ++ set (t ∷ interleave bs ts) n y) at
      ∙ sym (set-append_right b (t ∷ interleave bs ts) 255 (256 * suc k + 255) y full (omega arith))

module _ {A : Type 0} where
  -- a chunk takes another's place
  pub spread_set : (bs : List (List A)) (ts : List A) (k : ℕ) (c : List A) → AreSpread bs ts → length c ≡ length (get_or bs k []) → AreSpread (set bs k c) ts
  spread_set [] ts k c are same = absurd are
  spread_set (b ∷ bs) [] zero c are same = let few : length b ≤ 255 = are.1 in (are.0, omega arith)
  spread_set (b ∷ bs) [] (suc k) c are same = (ap (λ xs. set xs k c) are.0, are.1)
  spread_set (b ∷ bs) (t ∷ ts) zero c are same = (same ∙ are.0, are.1)
  spread_set (b ∷ bs) (t ∷ ts) (suc k) c are same = (are.0, spread_set bs ts k c are.1 same)

  pub spread_top : (bs : List (List A)) (ts : List A) (k : ℕ) (y : A) → AreSpread bs ts → AreSpread bs (set ts k y)
  spread_top [] ts k y are = absurd are
  spread_top (b ∷ bs) [] k y are = are
  spread_top (b ∷ bs) (t ∷ ts) zero y are = are
  spread_top (b ∷ bs) (t ∷ ts) (suc k) y are = (are.0, spread_top bs ts k y are.1)

  -- the last chunk becomes a longer or a shorter one
  pub spread_last : (bs : List (List A)) (ts : List A) (k : ℕ) (c : List A) → AreSpread bs ts → suc k ≡ length bs → length c ≤ 255 → AreSpread (set bs k c) ts
  spread_last [] ts k c are last few = absurd are
  spread_last (b ∷ bs) [] zero c are last few = (are.0, few)
  spread_last (b ∷ bs) [] (suc k) c are last few = let none = ap length are.0 in absurd (omega arith)
  spread_last (b ∷ bs) (t ∷ ts) zero c are last few = let some = chunk_count bs ts are.1 in absurd (omega arith)
  spread_last (b ∷ bs) (t ∷ ts) (suc k) c are last few = (are.0, spread_last bs ts k c are.1 (omega arith) few)

-- ---- an element is added

module _ {A : Type 0} where
  pub push_last : (bs : List (List A)) (ts : List A) (k : ℕ) (y : A) → AreSpread bs ts → suc k ≡ length bs → interleave (set bs k (get_or bs k [] ++ y ∷ [])) ts ≡ interleave bs ts ++ y ∷ []
  push_last [] ts k y are last = absurd are
  push_last (b ∷ bs) [] zero y are last = refl
  push_last (b ∷ bs) [] (suc k) y are last = let none = ap length are.0 in absurd (omega arith)
  push_last (b ∷ bs) (t ∷ ts) zero y are last = let some = chunk_count bs ts are.1 in absurd (omega arith)
  push_last (b ∷ bs) (t ∷ ts) (suc k) y are last =
      ap (λ zs. b ++ (t ∷ zs)) (push_last bs ts k y are.1 (omega arith))
      ∙ sym (append_assoc b (t ∷ interleave bs ts) (y ∷ []))

  pub push_top : (bs : List (List A)) (ts : List A) (y : A) → AreSpread bs ts → interleave (bs ++ [] ∷ []) (ts ++ y ∷ []) ≡ interleave bs ts ++ y ∷ []
  push_top [] ts y are = absurd are
  push_top (b ∷ bs) [] y are = ap (λ xs. b ++ (y ∷ interleave (xs ++ [] ∷ []) [])) are.0
  push_top (b ∷ bs) (t ∷ ts) y are =
      ap (λ zs. b ++ (t ∷ zs)) (push_top bs ts y are.1)
      ∙ sym (append_assoc b (t ∷ interleave bs ts) (y ∷ []))

  spread_empty : (bs : List (List A)) → bs ≡ [] → AreSpread (bs ++ [] ∷ []) []
  spread_empty [] none = (refl, omega arith)
  spread_empty (b ∷ bs) none = let long = ap length none in absurd (omega arith)

  pub spread_more : (bs : List (List A)) (ts : List A) (y : A) → AreSpread bs ts → length (get_or bs (length ts) []) ≡ 255 → AreSpread (bs ++ [] ∷ []) (ts ++ y ∷ [])
  spread_more [] ts y are full = absurd are
  spread_more (b ∷ bs) [] y are full = (full, spread_empty bs are.0)
  spread_more (b ∷ bs) (t ∷ ts) y are full = (are.0, spread_more bs ts y are.1 full)

-- ---- the first ones alone

module _ {A : Type 0} where
  pub spread_take : (bs : List (List A)) (ts : List A) (k : ℕ) → AreSpread bs ts → k ≤ length ts → AreSpread (take (suc k) bs) (take k ts)
  spread_take [] ts k are le = absurd are
  spread_take (b ∷ bs) [] zero are le = (refl, are.1)
  spread_take (b ∷ bs) [] (suc k) are le = absurd (omega arith)
  spread_take (b ∷ bs) (t ∷ ts) zero are le = let full : length b ≡ 255 = are.0 in (refl, omega arith)
  spread_take (b ∷ bs) (t ∷ ts) (suc k) are le = (are.0, spread_take bs ts k are.1 (omega arith))

  same_front : (bs : List (List A)) (ts : List A) (k : ℕ) → AreSpread bs ts → k ≤ length ts → take (256 * k + 255) (interleave (take (suc k) bs) (take k ts)) ≡ take (256 * k + 255) (interleave bs ts)
  same_front [] ts k are le = absurd are
  same_front (b ∷ bs) [] zero are le = refl
  same_front (b ∷ bs) [] (suc k) are le = absurd (omega arith)
  same_front (b ∷ bs) (t ∷ ts) zero are le =
      let full : length b ≡ 255 = are.0 in
      sym (take-append-le (256 * 0 + 255) b (t ∷ interleave bs ts) (omega arith))
  same_front (b ∷ bs) (t ∷ ts) (suc k) are le =
      let full : length b ≡ 255 = are.0 in
      let at : 256 * suc k + 255 ≡ length b + suc (256 * k + 255) = omega arith in
      let inner = interleave (take (suc k) bs) (take k ts) in
      ap (λ n. take n (b ++ (t ∷ inner))) at
      ∙ take-append-add b (t ∷ inner) (suc (256 * k + 255))
      ∙ ap (λ zs. b ++ (t ∷ zs)) (same_front bs ts k are.1 (omega arith))
      ∙ sym (ap (λ n. take n (b ++ (t ∷ interleave bs ts))) at ∙ take-append-add b (t ∷ interleave bs ts) (suc (256 * k + 255)))

  -- the last chunk is cut
  cut_in : (bs : List (List A)) (ts : List A) (k o : ℕ) → AreSpread bs ts → suc k ≡ length bs → interleave (set bs k (take o (get_or bs k []))) ts ≡ take (256 * k + o) (interleave bs ts)
  cut_in [] ts k o are last = absurd are
  cut_in (b ∷ bs) [] zero o are last =
      let at : o ≡ 256 * 0 + o = omega arith in
      ap (λ n. take n b) at
  cut_in (b ∷ bs) [] (suc k) o are last = let none = ap length are.0 in absurd (omega arith)
  cut_in (b ∷ bs) (t ∷ ts) zero o are last = let some = chunk_count bs ts are.1 in absurd (omega arith)
  cut_in (b ∷ bs) (t ∷ ts) (suc k) o are last =
      let full : length b ≡ 255 = are.0 in
      let at : length b + suc (256 * k + o) ≡ 256 * suc k + o = omega arith in
      ap (λ zs. b ++ (t ∷ zs)) (cut_in bs ts k o are.1 (omega arith))
      ∙ sym (take-append-add b (t ∷ interleave bs ts) (suc (256 * k + o)))
      ∙ ap (λ n. take n (b ++ (t ∷ interleave bs ts))) at

-- ---- the same at a number

module _ {A : Type 0} (bs : List (List A)) (ts : List A) (x : ℕ) (are : AreSpread bs ts) where
  parts_at : 256 * (x / 256) + x % 256 ≡ x
  parts_at = omega arith

  top_parts : 255 ≤ x % 256 → 256 * (x / 256) + 255 ≡ x
  top_parts high = omega arith

  -- a number within the list is one of a chunk, or that of a top
  pub chunk_within : x < length (interleave bs ts) → x % 256 < 255 → (x / 256 < length bs) × (x % 256 < length (get_or bs (x / 256) []))
  chunk_within lt low =
      let count = chunk_count bs ts are in
      let long = length_of bs ts are in
      let few = last_few bs ts are in
      elim (cases_lt (x / 256) (length ts)) [
        | inl less ↦ let full = full_at bs ts (x / 256) are less in (omega arith, omega arith)
        | inr more ↦
            let last : x / 256 ≡ length ts = omega arith in
            let size = ap (λ n. length (get_or bs n [])) last in
            (omega arith, omega arith)
      ]

  pub top_within : x < length (interleave bs ts) → 255 ≤ x % 256 → x / 256 < length ts
  top_within lt high =
      let long = length_of bs ts are in
      let few = last_few bs ts are in
      omega arith

  pub get_chunk : (d : A) → x < length (interleave bs ts) → x % 256 < 255 → get_or (interleave bs ts) x d ≡ get_or (get_or bs (x / 256) []) (x % 256) d
  get_chunk d lt low =
      let here = chunk_within lt low in
      ap (λ n. get_or (interleave bs ts) n d) (sym parts_at) ∙ get_in d bs ts (x / 256) (x % 256) are here.0 here.1

  pub get_upper : (d : A) → x < length (interleave bs ts) → 255 ≤ x % 256 → get_or (interleave bs ts) x d ≡ get_or ts (x / 256) d
  get_upper d lt high =
      ap (λ n. get_or (interleave bs ts) n d) (sym (top_parts high)) ∙ get_top d bs ts (x / 256) are (top_within lt high)

  pub set_chunk : (y : A) → x < length (interleave bs ts) → x % 256 < 255 → interleave (set bs (x / 256) (set (get_or bs (x / 256) []) (x % 256) y)) ts ≡ set (interleave bs ts) x y
  set_chunk y lt low =
      let here = chunk_within lt low in
      set_in y bs ts (x / 256) (x % 256) are here.0 here.1 ∙ ap (λ n. set (interleave bs ts) n y) parts_at

  pub set_upper : (y : A) → x < length (interleave bs ts) → 255 ≤ x % 256 → interleave bs (set ts (x / 256) y) ≡ set (interleave bs ts) x y
  set_upper y lt high =
      set_top y bs ts (x / 256) are (top_within lt high) ∙ ap (λ n. set (interleave bs ts) n y) (top_parts high)

  -- chunks behind a number go
  pub front_chunks : x ≤ length (interleave bs ts) → x / 256 ≤ length ts
  front_chunks le =
      let long = length_of bs ts are in
      let few = last_few bs ts are in
      omega arith

  pub take_front : x ≤ length (interleave bs ts) → take x (interleave (take (suc (x / 256)) bs) (take (x / 256) ts)) ≡ take x (interleave bs ts)
  take_front le =
      let size : x ≤ 256 * (x / 256) + 255 = omega arith in
      let short = interleave (take (suc (x / 256)) bs) (take (x / 256) ts) in
      sym (take-take x (256 * (x / 256) + 255) short size)
      ∙ ap (take x) (same_front bs ts (x / 256) are (front_chunks le))
      ∙ take-take x (256 * (x / 256) + 255) (interleave bs ts) size

  pub cut_last : suc (x / 256) ≡ length bs → interleave (set bs (x / 256) (take (x % 256) (get_or bs (x / 256) []))) ts ≡ take x (interleave bs ts)
  cut_last last = cut_in bs ts (x / 256) (x % 256) are last ∙ ap (λ n. take n (interleave bs ts)) parts_at

  pub length_front : x ≤ length (interleave bs ts) → length (interleave (take (suc (x / 256)) bs) (take (x / 256) ts)) ≡ 256 * (x / 256) + length (get_or bs (x / 256) [])
  length_front le =
      let behind = front_chunks le in
      let short = length-take-le (x / 256) ts behind in
      let last = ap (λ n. length (get_or (take (suc (x / 256)) bs) n [])) short in
      let same = ap length (get_or-take (suc (x / 256)) bs (x / 256) [] (omega arith)) in
      let long = length_of (take (suc (x / 256)) bs) (take (x / 256) ts) (spread_take bs ts (x / 256) are behind) in
      omega arith

  -- what is left holds so many, and ends in the same chunk
  pub front_within : x ≤ length (interleave bs ts) → (x ≤ 256 * (x / 256) + length (get_or bs (x / 256) [])) × (length (get_or bs (x / 256) []) ≤ 255)
  front_within le =
      let long = length_of bs ts are in
      let few = last_few bs ts are in
      let behind = front_chunks le in
      elim (cases_lt (x / 256) (length ts)) [
        | inl less ↦ let full = full_at bs ts (x / 256) are less in (omega arith, omega arith)
        | inr more ↦
            let last : x / 256 ≡ length ts = omega arith in
            let size = ap (λ n. length (get_or bs n [])) last in
            (omega arith, omega arith)
      ]

  -- where a number is in the last chunk
  pub ends_last : x / 256 ≡ length (interleave bs ts) / 256 → suc (x / 256) ≡ length bs
  ends_last same =
      let long = length_of bs ts are in
      let few = last_few bs ts are in
      let count = chunk_count bs ts are in
      omega arith
