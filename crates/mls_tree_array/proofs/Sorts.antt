-- Byte strings that differ from one another, by sorting them.
use Rattle.std.proofs.Common.{◌≡◌, ℕ, zero, suc, ◌+◌, ◌-◌, ◌<◌, ◌≤◌, ◌==◌, Bool, true, false, cond, List, [], ◌∷◌, length, get_or, refl, sym, ◌∙◌, ap, subst, arith, inl, inr, eq-eqb, ne_eqb, add-one, nat_eq, ◌&&◌, Bor}
use Rattle.std.proofs.lemmas.Bool.{true≢false, and_from, cases_Bool}
use Rattle.std.proofs.lemmas.List.{get_or_default}
use Rattle.std.proofs.lemmas.List.Sorted.{sum_by-IsPermutation, IsPermutation-map}
use Rattle.std.proofs.lemmas.List.Sums.{sum_by-cons}
use Rattle.std.specs.List.{sum_by}
use Rattle.std.specs.List.Sorted.{IsPermutation, IsSorted}
use Rattle.std.specs.Ordering.{nat_cmp, is_lt, is_eq, ordering_reverse}
use Rattle.std.specs.declared.cmp.Ordering.{Ordering}
use Rattle.std.specs.declared.cmp.Ordering.TheVariants.{Less, Equal, Greater}
use Rattle.std.specs.Cmp.{both_ways}
use Rattle.std.specs.Bool.{MatchBool, ⊤}
use Rattle.std.specs.Cmp.Lexicographic.{pointwise, slice_cmp, nat_list_cmp_total, texts_ties, same_text}
use Rattle.std.proofs.Math.Bool.{and-false}
use Rattle.mls_tree_model.specs.Sets.{same_bytes, count, is_distinct}
use Rattle.mls_tree_model.proofs.MergeLaws.{bytes_refl}
use Rattle.mls_tree_model.proofs.CountLaws.{bytes_true, distinct_at, distinct_from}
use Rattle.mls_tree_array.specs.DistinctStrings.{Differ, Repeats, bytes_in}

-- ---- counting

count_nil : (x : List ℕ) → count same_bytes x [] ≡ 0
unfolding count
count_nil x = refl

count_cons : (x y : List ℕ) (ys : List (List ℕ)) → count same_bytes x (y ∷ ys) ≡ cond (same_bytes y x) 1 0 + count same_bytes x ys
unfolding count
count_cons x y ys = refl

distinct_cons : (x : List ℕ) (xs : List (List ℕ)) → is_distinct same_bytes (x ∷ xs) ≡ ((count same_bytes x xs == 0) && is_distinct same_bytes xs)
unfolding is_distinct
distinct_cons x xs = refl

missed : (x y : List ℕ) (ys : List (List ℕ)) → same_bytes y x ≡ false → count same_bytes x ys ≡ 0 → count same_bytes x (y ∷ ys) ≡ 0
missed x y ys other none = count_cons x y ys ∙ ap (λ v. cond v 1 0 + count same_bytes x ys) other ∙ none_more (count same_bytes x ys) none
  where
    none_more : (n : ℕ) → n ≡ 0 → 0 + n ≡ 0
    none_more n e = omega arith

found : (x y : List ℕ) (ys : List (List ℕ)) → same_bytes y x ≡ true → (count same_bytes x (y ∷ ys) == 0) ≡ false
found x y ys same =
    ap (λ n. n == 0) (count_cons x y ys ∙ ap (λ v. cond v 1 0 + count same_bytes x ys) same) ∙ one_more (count same_bytes x ys)
  where
    one_more : (n : ℕ) → (1 + n == 0) ≡ false
    one_more n = ne_eqb (1 + n) 0 (λ e. absurd (omega arith))

-- 1 for each that is the same
hit : List ℕ → List ℕ → ℕ
hit x y = cond (same_bytes y x) 1 0

count_sum : (x : List ℕ) (ys : List (List ℕ)) → count same_bytes x ys ≡ sum_by (hit x) ys
unfolding count hit
count_sum x [] = refl
count_sum x (y ∷ ys) = ap (λ n. cond (same_bytes y x) 1 0 + n) (count_sum x ys) ∙ sym (sum_by-cons (hit x) y ys)

-- how often a list has a value doesn't depend on its order
count_moved : (x : List ℕ) (xs ys : List (List ℕ)) → IsPermutation xs ys → count same_bytes x ys ≡ count same_bytes x xs
count_moved x xs ys moved = count_sum x ys ∙ sum_by-IsPermutation (hit x) xs ys moved ∙ sym (count_sum x xs)

distinct_moved : (xs ys : List (List ℕ)) → IsPermutation xs ys → is_distinct same_bytes ys ≡ is_distinct same_bytes xs
distinct_moved xs ys moved =
    both_ways (is_distinct same_bytes ys) (is_distinct same_bytes xs)
    (λ e. distinct_from same_bytes bytes_refl xs (λ x. subst (λ n. n ≤ 1) (count_moved x xs ys moved) (distinct_at same_bytes bytes_true ys e x)))
    (λ e. distinct_from same_bytes bytes_refl ys (λ x. subst (λ n. n ≤ 1) (sym (count_moved x xs ys moved)) (distinct_at same_bytes bytes_true xs e x)))

-- ---- order

below : List ℕ → List ℕ → Ordering
below x y = slice_cmp nat_cmp x y

-- what isn't above and isn't the same is below
less_of : (r s : Ordering) → s ≡ ordering_reverse r → is_lt s ≡ false → is_eq r ≡ false → r ≡ Less
less_of Less s e not_above other = refl
less_of Equal s e not_above other = absurd (true≢false other)
less_of Greater s e not_above other = absurd (true≢false (sym (ap is_lt e) ∙ not_above))

no_less : (r : Ordering) → r ≡ ordering_reverse r → r ≡ Less → ⊥
no_less r e less = true≢false (sym (ap is_lt less) ∙ ap is_lt e ∙ ap (λ s. is_lt (ordering_reverse s)) less)

-- nothing is below itself
other_below : (x y : List ℕ) → below x y ≡ Less → same_bytes y x ≡ false
unfolding below
other_below x y less =
    elim (cases_Bool (same_bytes y x)) [
      | inl k ↦ absurd (no_less (slice_cmp nat_cmp x x) (nat_list_cmp_total.antisymm x x) (ap (λ z. slice_cmp nat_cmp x z) (sym (bytes_true y x k)) ∙ less))
      | inr k ↦ k
    ]

-- each is below the next one
Rises : List (List ℕ) → Type 0
Rises [] = ⊤
Rises (x ∷ []) = ⊤
Rises (x ∷ (y ∷ ys)) = (below x y ≡ Less) × Rises (y ∷ ys)

none_above : (x y : List ℕ) (ys : List (List ℕ)) → below x y ≡ Less → Rises (y ∷ ys) → count same_bytes x (y ∷ ys) ≡ 0
unfolding Rises below
none_above x y [] less rises = missed x y [] (other_below x y less) (count_nil x)
none_above x y (z ∷ zs) less rises =
    missed x y (z ∷ zs) (other_below x y less) (none_above x z zs (nat_list_cmp_total.trans x y z less rises.0) rises.1)

distinct_rising : (xs : List (List ℕ)) → Rises xs → is_distinct same_bytes xs ≡ true
unfolding is_distinct Rises count
distinct_rising [] rises = refl
distinct_rising (x ∷ []) rises = refl
distinct_rising (x ∷ (y ∷ ys)) rises =
    and_from (count same_bytes x (y ∷ ys) == 0) _
    (eq-eqb (count same_bytes x (y ∷ ys)) 0 (none_above x y ys rises.0 rises.1))
    (distinct_rising (y ∷ ys) rises.1)

-- ---- of borrowed byte strings

-- none is above the next one
NotAbove : List (Bor (List ℕ)) → Type 0
NotAbove xs = (k : ℕ) (d : Bor (List ℕ)) → suc k < length xs → is_lt (slice_cmp nat_cmp (get_or xs (suc k) d).now (get_or xs k d).now) ≡ false

not_above : (xs : List (Bor (List ℕ))) → IsSorted (λ x y. slice_cmp nat_cmp x.now y.now) xs → NotAbove xs
unfolding NotAbove
not_above xs sorted = λ k d lt. subst (λ j. is_lt (slice_cmp nat_cmp (get_or xs j d).now (get_or xs k d).now) ≡ false) (add-one k) (sorted k d (omega arith) (omega arith))

rising_from : (xs : List (Bor (List ℕ))) → NotAbove xs → Differ xs → Rises (bytes_in xs)
unfolding NotAbove Rises below
rising_from [] sorted differ = tt
rising_from (x ∷ []) sorted differ = tt
rising_from (x ∷ (y ∷ ys)) sorted differ = (
  less_of (slice_cmp nat_cmp x.now y.now) (slice_cmp nat_cmp y.now x.now) (nat_list_cmp_total.antisymm y.now x.now) (sorted 0 x (omega arith)) (sym (texts_ties x.now y.now) ∙ differ 0 x (omega arith)),
  rising_from (y ∷ ys) (λ k d lt. sorted (suc k) d (omega arith)) (λ k d lt. differ (suc k) d (omega arith)),
)

same_found : (xs : List (Bor (List ℕ))) (k : ℕ) → suc k < length xs → ((d : Bor (List ℕ)) → pointwise nat_eq (get_or xs k d).now (get_or xs (suc k) d).now ≡ true) → is_distinct same_bytes (bytes_in xs) ≡ false
same_found [] k lt same = absurd (omega arith)
same_found (x ∷ []) k lt same = absurd (omega arith)
same_found (x ∷ (y ∷ ys)) zero lt same =
    let alike : x.now ≡ y.now = same_text x.now y.now (sym (same x)) in
    distinct_cons x.now (bytes_in (y ∷ ys))
    ∙ ap (λ v. v && is_distinct same_bytes (bytes_in (y ∷ ys))) (found x.now y.now (bytes_in ys) (ap (λ z. same_bytes y.now z) alike ∙ bytes_refl y.now))
same_found (x ∷ (y ∷ ys)) (suc k) lt same =
    distinct_cons x.now (bytes_in (y ∷ ys))
    ∙ ap (λ v. (count same_bytes x.now (bytes_in (y ∷ ys)) == 0) && v) (same_found (y ∷ ys) k (omega arith) same) ∙ and-false (count same_bytes x.now (bytes_in (y ∷ ys)) == 0)

-- what the test of neighbours answers, after a sort
pub answer_of : (xs ys : List (Bor (List ℕ))) (r : Bool) → IsPermutation xs ys → IsSorted (λ x y. slice_cmp nat_cmp x.now y.now) ys → MatchBool r (Differ ys) (Repeats ys) → r ≡ is_distinct same_bytes (bytes_in xs)
answer_of xs ys true moved sorted differ =
    sym (distinct_rising (bytes_in ys) (rising_from ys (not_above ys sorted) differ)) ∙ distinct_moved (bytes_in xs) (bytes_in ys) (IsPermutation-map (λ x. x.now) xs ys moved)
answer_of xs ys false moved sorted repeats =
    sym (same_found ys repeats.place repeats.within repeats.same) ∙ distinct_moved (bytes_in xs) (bytes_in ys) (IsPermutation-map (λ x. x.now) xs ys moved)

-- what the test of one pair shows, where the code reads it with the default e
pub repeats_at : (xs : List (Bor (List ℕ))) (k : ℕ) (e : Bor (List ℕ)) (r : Bool) → 1 ≤ k → k < length xs → r ≡ pointwise nat_eq (get_or xs (k - 1) e).now (get_or xs k e).now → r ≡ true → Repeats xs
repeats_at xs k e r some lt is holds =
    let next : suc (k - 1) ≡ k = omega arith in
    record {
      place = k - 1;
      within = omega arith;
      same = λ d.
          ap (λ y. pointwise nat_eq y.now (get_or xs (suc (k - 1)) d).now) (get_or_default xs (k - 1) d e (omega arith))
          ∙ ap (λ j. pointwise nat_eq (get_or xs (k - 1) e).now (get_or xs j d).now) next
          ∙ ap (λ y. pointwise nat_eq (get_or xs (k - 1) e).now y.now) (get_or_default xs k d e lt)
          ∙ sym is
          ∙ holds;
    }
