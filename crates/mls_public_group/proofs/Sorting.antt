-- Numbers that differ from one another, by sorting them.
use Rattle.std.proofs.Common.{◌≡◌, ◌≢◌, ℕ, zero, suc, ◌+◌, ◌<◌, ◌≤◌, ◌==◌, Bool, true, false, cond, List, [], ◌∷◌, length, get_or, refl, sym, ◌∙◌, ap, subst, arith, eq-eqb, ne_eqb, eqb-true, add-one, nat_eq, ◌&&◌}
use Rattle.std.proofs.lemmas.Bool.{and_from}
use Rattle.std.proofs.lemmas.List.Sorted.{sum_by-IsPermutation}
use Rattle.std.proofs.lemmas.List.Sums.{sum_by-cons}
use Rattle.std.proofs.lemmas.Map.Keys.{ge_from_not_lt}
use Rattle.std.specs.List.{sum_by}
use Rattle.std.specs.List.Sorted.{IsPermutation, IsSorted}
use Rattle.std.specs.Ordering.{nat_cmp, is_lt}
use Rattle.std.specs.Cmp.{both_ways}
use Rattle.std.specs.Bool.{MatchBool, ⊤}
use Rattle.std.proofs.Math.Bool.{and-false}
use Rattle.mls_tree_model.specs.Sets.{count, is_distinct}
use Rattle.mls_tree_model.proofs.CountLaws.{distinct_at, distinct_from}
use Rattle.mls_public_group.specs.Numbers.{Differ, Repeats}

count_cons : (x y : ℕ) (ys : List ℕ) → count nat_eq x (y ∷ ys) ≡ cond (nat_eq y x) 1 0 + count nat_eq x ys
unfolding count
count_cons x y ys = refl

-- 1 for each that is the same
hit : ℕ → ℕ → ℕ
hit x y = cond (nat_eq y x) 1 0

count_sum : (x : ℕ) (ys : List ℕ) → count nat_eq x ys ≡ sum_by (hit x) ys
unfolding count hit
count_sum x [] = refl
count_sum x (y ∷ ys) = ap (λ n. cond (nat_eq y x) 1 0 + n) (count_sum x ys) ∙ sym (sum_by-cons (hit x) y ys)

-- how often a list has a number doesn't depend on its order
count_moved : (x : ℕ) (xs ys : List ℕ) → IsPermutation xs ys → count nat_eq x ys ≡ count nat_eq x xs
count_moved x xs ys moved = count_sum x ys ∙ sum_by-IsPermutation (hit x) xs ys moved ∙ sym (count_sum x xs)

same_number : (a b : ℕ) → nat_eq a b ≡ true → a ≡ b
same_number a b e = eqb-true a b e

number_same : (a : ℕ) → nat_eq a a ≡ true
number_same a = eq-eqb a a refl

distinct_moved : (xs ys : List ℕ) → IsPermutation xs ys → is_distinct nat_eq ys ≡ is_distinct nat_eq xs
distinct_moved xs ys moved =
    both_ways (is_distinct nat_eq ys) (is_distinct nat_eq xs)
    (λ e. distinct_from nat_eq number_same xs (λ x. subst (λ n. n ≤ 1) (count_moved x xs ys moved) (distinct_at nat_eq same_number ys e x)))
    (λ e. distinct_from nat_eq number_same ys (λ x. subst (λ n. n ≤ 1) (sym (count_moved x xs ys moved)) (distinct_at nat_eq same_number xs e x)))

-- ---- order

-- each is below the next one
Rises : List ℕ → Type 0
Rises [] = ⊤
Rises (x ∷ []) = ⊤
Rises (x ∷ (y ∷ ys)) = (x < y) × Rises (y ∷ ys)

missed : (x y : ℕ) (ys : List ℕ) → x < y → count nat_eq x ys ≡ 0 → count nat_eq x (y ∷ ys) ≡ 0
missed x y ys less none = count_cons x y ys ∙ ap (λ v. cond v 1 0 + count nat_eq x ys) (ne_eqb y x (λ e. absurd (omega arith))) ∙ none_more (count nat_eq x ys) none
  where
    none_more : (n : ℕ) → n ≡ 0 → 0 + n ≡ 0
    none_more n e = omega arith

none_above : (x y : ℕ) (ys : List ℕ) → x < y → Rises (y ∷ ys) → count nat_eq x (y ∷ ys) ≡ 0
unfolding Rises count
none_above x y [] less rises = missed x y [] less refl
none_above x y (z ∷ zs) less rises = missed x y (z ∷ zs) less (none_above x z zs (omega (arith, rises.0)) rises.1)

distinct_rising : (xs : List ℕ) → Rises xs → is_distinct nat_eq xs ≡ true
unfolding is_distinct Rises count
distinct_rising [] rises = refl
distinct_rising (x ∷ []) rises = refl
distinct_rising (x ∷ (y ∷ ys)) rises =
    and_from (count nat_eq x (y ∷ ys) == 0) _
    (eq-eqb (count nat_eq x (y ∷ ys)) 0 (none_above x y ys rises.0 rises.1))
    (distinct_rising (y ∷ ys) rises.1)

-- none is above the next one
NotAbove : List ℕ → Type 0
NotAbove xs = (k : ℕ) → suc k < length xs → get_or xs k 0 ≤ get_or xs (suc k) 0

not_above : (xs : List ℕ) → IsSorted nat_cmp xs → NotAbove xs
unfolding NotAbove
not_above xs sorted = λ k lt. ge_from_not_lt _ _ (subst (λ j. is_lt (nat_cmp (get_or xs j 0) (get_or xs k 0)) ≡ false) (add-one k) (sorted k 0 (omega arith) (omega arith)))

rising_from : (xs : List ℕ) → NotAbove xs → Differ xs → Rises xs
unfolding NotAbove Rises
rising_from [] sorted differ = tt
rising_from (x ∷ []) sorted differ = tt
rising_from (x ∷ (y ∷ ys)) sorted differ =
    (below x y (sorted 0 (omega arith)) (differ 0 (omega arith)), rising_from (y ∷ ys) (λ k lt. sorted (suc k) (omega arith)) (λ k lt. differ (suc k) (omega arith)))
  where
    below : (a b : ℕ) → a ≤ b → a ≢ b → a < b
    below a b le ne = omega arith

found : (x : ℕ) (ys : List ℕ) → (count nat_eq x (x ∷ ys) == 0) ≡ false
found x ys =
    ap (λ n. n == 0) (count_cons x x ys ∙ ap (λ v. cond v 1 0 + count nat_eq x ys) (number_same x)) ∙ one_more (count nat_eq x ys)
  where
    one_more : (n : ℕ) → (1 + n == 0) ≡ false
    one_more n = ne_eqb (1 + n) 0 (λ e. absurd (omega arith))

distinct_cons : (x : ℕ) (xs : List ℕ) → is_distinct nat_eq (x ∷ xs) ≡ ((count nat_eq x xs == 0) && is_distinct nat_eq xs)
unfolding is_distinct
distinct_cons x xs = refl

same_found : (xs : List ℕ) (k : ℕ) → suc k < length xs → get_or xs k 0 ≡ get_or xs (suc k) 0 → is_distinct nat_eq xs ≡ false
same_found [] k lt same = absurd (omega arith)
same_found (x ∷ []) k lt same = absurd (omega arith)
same_found (x ∷ (y ∷ ys)) zero lt same =
    distinct_cons x (y ∷ ys) ∙ ap (λ v. v && is_distinct nat_eq (y ∷ ys)) (ap (λ z. count nat_eq z (y ∷ ys) == 0) same ∙ found y ys)
same_found (x ∷ (y ∷ ys)) (suc k) lt same =
    distinct_cons x (y ∷ ys)
    ∙ ap (λ v. (count nat_eq x (y ∷ ys) == 0) && v) (same_found (y ∷ ys) k (omega arith) same) ∙ and-false (count nat_eq x (y ∷ ys) == 0)

-- what the test of neighbours answers, after a sort
pub answer_of : (xs ys : List ℕ) (r : Bool) → IsPermutation xs ys → IsSorted nat_cmp ys → MatchBool r (Differ ys) (Repeats ys) → r ≡ is_distinct nat_eq xs
answer_of xs ys true moved sorted differ = sym (distinct_rising ys (rising_from ys (not_above ys sorted) differ)) ∙ distinct_moved xs ys moved
answer_of xs ys false moved sorted repeats = sym (same_found ys repeats.place repeats.within repeats.same) ∙ distinct_moved xs ys moved
