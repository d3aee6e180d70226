-- The laws of the numbers of a rising list: each is above those before it, and what is left out of it.
use Rattle.std.proofs.Common.{◌≡◌, ◌≢◌, ◌∙◌, ℕ, zero, suc, ◌+◌, ◌<◌, ◌≤◌, ◌==◌, Bool, true, false, not, cond, List, [], ◌∷◌, length, get_or, filter, refl, sym, ap, arith, inl, inr}
use Rattle.std.specs.Prelude.{nat_le}
use Rattle.std.proofs.lemmas.Bool.{and_parts, leb-true, cases_lt, cases_order, ne_eqb, eq-eqb}
use Rattle.mls_leaf.specs.Parent.{rises_from, rising_with}
use Rattle.mls_leaf.proofs.ParentLaws.{rises_from-nil, rises_from-cons, rises_from-more, rising_with-nil, rising_with-before, rising_with-behind}

-- ---- each number of a rising list is above those before it

pub no_lower : (low : ℕ) (xs : List ℕ) (j : ℕ) → rises_from low xs ≡ true → j < length xs → low ≤ get_or xs j 0
no_lower low [] j rise lt = absurd (omega arith)
no_lower low (x ∷ xs) zero rise lt = leb-true low x (and_parts (nat_le low x) (rises_from (x + 1) xs) (sym (rises_from-cons low x xs) ∙ rise)).0
no_lower low (x ∷ xs) (suc j) rise lt =
    let both = and_parts (nat_le low x) (rises_from (x + 1) xs) (sym (rises_from-cons low x xs) ∙ rise) in
    omega (arith, leb-true low x both.0, no_lower (x + 1) xs j both.1 (omega arith))

pub above_front : (low : ℕ) (xs : List ℕ) (i j : ℕ) → rises_from low xs ≡ true → i < j → j < length xs → get_or xs i 0 < get_or xs j 0
above_front low [] i j rise less lt = absurd (omega arith)
above_front low (x ∷ xs) i zero rise less lt = absurd (omega arith)
above_front low (x ∷ xs) zero (suc j) rise less lt =
    let both = and_parts (nat_le low x) (rises_from (x + 1) xs) (sym (rises_from-cons low x xs) ∙ rise) in
    omega (arith, no_lower (x + 1) xs j both.1 (omega arith))
above_front low (x ∷ xs) (suc i) (suc j) rise less lt =
    let both = and_parts (nat_le low x) (rises_from (x + 1) xs) (sym (rises_from-cons low x xs) ∙ rise) in
    above_front (x + 1) xs i j both.1 (omega arith) (omega arith)

pub no_less : (xs : List ℕ) (i j : ℕ) → rises_from 0 xs ≡ true → i ≤ j → j < length xs → get_or xs i 0 ≤ get_or xs j 0
no_less xs i j rise le lt =
    elim (cases_lt i j) [
      | inl less ↦ (let above = above_front 0 xs i j rise less lt in omega arith)
      | inr same ↦ (let e : i ≡ j = omega arith in let f = ap (λ k. get_or xs k 0) e in omega arith)
    ]

-- ---- some of its numbers

-- a list that rises from a bound rises from a lower one
pub from_lower : (low mid : ℕ) (xs : List ℕ) → low ≤ mid → rises_from mid xs ≡ true → rises_from low xs ≡ true
from_lower low mid [] le rise = rises_from-nil low
from_lower low mid (x ∷ xs) le rise =
    let both = and_parts (nat_le mid x) (rises_from (x + 1) xs) (sym (rises_from-cons mid x xs) ∙ rise) in
    let above = leb-true mid x both.0 in
    rises_from-more low x xs (omega arith) ∙ both.1

-- some numbers of a rising list rise
pub some_rise : (p : ℕ → Bool) (low : ℕ) (xs : List ℕ) → rises_from low xs ≡ true → rises_from low (filter p xs) ≡ true
some_rise p low [] rise = rise
some_rise p low (x ∷ xs) rise =
    let both = and_parts (nat_le low x) (rises_from (x + 1) xs) (sym (rises_from-cons low x xs) ∙ rise) in
    let above = leb-true low x both.0 in
    let rest = some_rise p (x + 1) xs both.1 in
    elim (p x) as (λ v. rises_from low (cond v (x ∷ filter p xs) (filter p xs)) ≡ true) [
      | true ↦ rises_from-more low x (filter p xs) above ∙ rest
      | false ↦ from_lower low (x + 1) (filter p xs) (omega arith) rest
    ]

-- ---- a number that it doesn't have

-- a list without a number stays when that is taken out
stays : (x : ℕ) (xs : List ℕ) → ((k : ℕ) → k < length xs → get_or xs k 0 ≢ x) → filter (λ u. not (u == x)) xs ≡ xs
stays x [] none = refl
stays x (y ∷ ys) none =
    ap (λ b. cond (not b) (y ∷ filter (λ u. not (u == x)) ys) (filter (λ u. not (u == x)) ys)) (ne_eqb y x (none 0 (omega arith)))
    ∙ ap (λ l. y ∷ l) (stays x ys (λ k lt. none (suc k) (omega arith)))

-- a number that is put in and taken out again leaves the list
pub taken_out : (x : ℕ) (xs : List ℕ) → ((k : ℕ) → k < length xs → get_or xs k 0 ≢ x) → filter (λ u. not (u == x)) (rising_with x xs) ≡ xs
taken_out x [] none = rw (rising_with-nil x) (ap (λ b. cond (not b) (x ∷ []) []) (eq-eqb x x refl))
taken_out x (y ∷ ys) none =
    elim (cases_order x y) [
      | inl e ↦ absurd (none 0 (omega arith) (sym e))
      | inr (inl lt) ↦ rw (rising_with-before x y ys lt)
          (ap (λ b. cond (not b) (x ∷ filter (λ u. not (u == x)) (y ∷ ys)) (filter (λ u. not (u == x)) (y ∷ ys))) (eq-eqb x x refl) ∙ stays x (y ∷ ys) none)
      | inr (inr lt) ↦ rw (rising_with-behind x y ys lt)
          (ap (λ b. cond (not b) (y ∷ filter (λ u. not (u == x)) (rising_with x ys)) (filter (λ u. not (u == x)) (rising_with x ys))) (ne_eqb y x (none 0 (omega arith)))
          ∙ ap (λ l. y ∷ l) (taken_out x ys (λ k lt'. none (suc k) (omega arith))))
    ]
