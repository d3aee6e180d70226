-- Whether a number is in a sorted list, as a search by halves finds it.
use Rattle.std.proofs.Common.{◌≡◌, ◌≢◌, ℕ, zero, suc, ◌+◌, ◌<◌, ◌≤◌, Bool, true, false, List, [], ◌∷◌, length, get_or, Result, Ok, Err, refl, sym, ap, ◌∙◌, arith, inl, inr, eqb, eq-eqb, nat_cmp}
use Rattle.std.specs.Prelude.{nat_le, is_ok, is_err, not, ◌||◌}
use Rattle.std.specs.List.Sorted.{IsBinarySearchResult, IsNonDecreasing}
use Rattle.std.proofs.lemmas.Bool.{and_parts, leb-true, ne_eqb, cases_lt}
use Rattle.std.proofs.lemmas.List.Sorted.{searched, IsNonDecreasingBy-from_default}
use Rattle.std.proofs.Math.Bool.{or-true}
use Rattle.mls_leaf.specs.Parent.{rises_from}
use Rattle.mls_leaf.proofs.ParentLaws.{rises_from-cons}
use Rattle.mls_tree_model.specs.Sets.{has}

-- each number is no less than the bound
above_low : (low : ℕ) (xs : List ℕ) (j : ℕ) → rises_from low xs ≡ true → j < length xs → low ≤ get_or xs j 0
above_low low [] j rise lt = absurd (omega arith)
above_low low (x ∷ xs) zero rise lt = leb-true low x (and_parts (nat_le low x) (rises_from (x + 1) xs) (sym (rises_from-cons low x xs) ∙ rise)).0
above_low low (x ∷ xs) (suc j) rise lt =
    let both = and_parts (nat_le low x) (rises_from (x + 1) xs) (sym (rises_from-cons low x xs) ∙ rise) in
    omega (arith, leb-true low x both.0, above_low (x + 1) xs j both.1 (omega arith))

rising_is_sorted : (low : ℕ) (xs : List ℕ) (i j : ℕ) → rises_from low xs ≡ true → i ≤ j → j < length xs → get_or xs i 0 ≤ get_or xs j 0
rising_is_sorted low [] i j rise le lt = absurd (omega arith)
rising_is_sorted low (x ∷ xs) zero zero rise le lt = omega arith
rising_is_sorted low (x ∷ xs) zero (suc j) rise le lt =
    let both = and_parts (nat_le low x) (rises_from (x + 1) xs) (sym (rises_from-cons low x xs) ∙ rise) in
    omega (arith, above_low (x + 1) xs j both.1 (omega arith))
rising_is_sorted low (x ∷ xs) (suc i) zero rise le lt = absurd (omega arith)
rising_is_sorted low (x ∷ xs) (suc i) (suc j) rise le lt =
    let both = and_parts (nat_le low x) (rises_from (x + 1) xs) (sym (rises_from-cons low x xs) ∙ rise) in
    rising_is_sorted (x + 1) xs i j both.1 (omega arith) (omega arith)

has_there : (xs : List ℕ) (i x : ℕ) → i < length xs → get_or xs i 0 ≡ x → has xs x ≡ true
unfolding has
has_there [] i x lt e = absurd (omega arith)
has_there (y ∷ xs) zero x lt e = ap (λ (b : Bool). b || has xs x) (eq-eqb y x e)
has_there (y ∷ xs) (suc i) x lt e = ap (λ (b : Bool). eqb y x || b) (has_there xs i x (omega arith) e) ∙ or-true (eqb y x)

has_nowhere : (xs : List ℕ) (x : ℕ) → ((k : ℕ) → k < length xs → get_or xs k 0 ≢ x) → has xs x ≡ false
unfolding has
has_nowhere [] x none = refl
has_nowhere (y ∷ xs) x none = ap (λ (b : Bool). b || has xs x) (ne_eqb y x (none 0 (omega arith))) ∙ has_nowhere xs x (λ k lt. none (suc k) (omega arith))

-- a search of a sorted list finds what it has
pub found_sorted : (xs : List ℕ) (x : ℕ) (r : Result ℕ ℕ) → IsNonDecreasing xs → IsBinarySearchResult (λ y. nat_cmp y x) xs r → is_ok r ≡ has xs x
found_sorted xs x (Ok i) up h =
    let at = searched xs x (Ok i) h (λ a b. up a b 0) in
    sym (has_there xs i x at.0 at.1)
found_sorted xs x (Err i) up h =
    let at = searched xs x (Err i) h (λ a b. up a b 0) in
    sym (has_nowhere xs x (λ k lt e. elim (cases_lt k i) [ inl below ↦ absurd (omega (arith, at.1 k below)) | inr above ↦ absurd (omega (arith, at.2 k above lt)) ]))

-- and so it does of a rising one
pub found : (xs : List ℕ) (x : ℕ) (r : Result ℕ ℕ) → rises_from 0 xs ≡ true → IsBinarySearchResult (λ y. nat_cmp y x) xs r → is_ok r ≡ has xs x
found xs x r rise h = found_sorted xs x r (IsNonDecreasingBy-from_default (λ y. y) xs 0 (λ i j. rising_is_sorted 0 xs i j rise)) h

pub not_found : (xs : List ℕ) (x : ℕ) (r : Result ℕ ℕ) → rises_from 0 xs ≡ true → IsBinarySearchResult (λ y. nat_cmp y x) xs r → is_err r ≡ not (has xs x)
not_found xs x r rise h = other r ∙ ap not (found xs x r rise h)
  where
    other : (r : Result ℕ ℕ) → is_err r ≡ not (is_ok r)
    other (Ok i) = refl
    other (Err i) = refl
