-- Where a search by halves says that a number belongs in a rising list.
use Rattle.std.proofs.Common.{◌≡◌, ◌==◌, ℕ, zero, suc, ◌<◌, ◌≤◌, true, not, List, length, get_or, filter, Result, Ok, Err, Option, Some, None, insert, refl, sym, ap, ◌∙◌, arith, add-one, inl, inr, nat_cmp}
use Rattle.std.specs.Prelude.{MatchOption}
use Rattle.std.specs.List.Sorted.{IsBinarySearchResult}
use Rattle.std.proofs.lemmas.Bool.{cases_lt}
use Rattle.std.proofs.lemmas.List.Sorted.{searched}
use Rattle.mls_leaf.specs.Parent.{rises_from, rising_with}
use Rattle.mls_leaf.proofs.RisingLaws.{above_front, no_less, taken_out}
use Rattle.mls_leaf.proofs.ParentLaws.{put_behind, put_on, put_before, put_there, put_last}

-- ---- the place of a number

-- behind numbers that are all below it
reached : (xs : List ℕ) (i x : ℕ) → i ≤ length xs → ((k : ℕ) → k < i → get_or xs k 0 < x) → put_behind i x xs ≡ rising_with x xs
reached xs zero x fits below = refl
reached xs (suc i) x fits below =
    ap (λ k. put_behind k x xs) (sym (add-one i))
    ∙ sym (put_on xs i x (get_or xs i 0) (omega arith) refl (below i (omega arith)))
    ∙ reached xs i x (omega arith) (λ k lt. below k (omega arith))

abbrev place_of : Result ℕ ℕ → Option ℕ
place_of (Ok i) = None
place_of (Err i) = Some i

pub placed : (xs : List ℕ) (x : ℕ) (r : Result ℕ ℕ) → rises_from 0 xs ≡ true → IsBinarySearchResult (λ y. nat_cmp y x) xs r → MatchOption (place_of r) (rising_with x xs ≡ xs) (λ i. (i ≤ length xs) × (rising_with x xs ≡ insert xs i x))
placed xs x (Ok i) rise h =
    let at = searched xs x (Ok i) h (λ a b. no_less xs a b rise) in
    let low = at.0 in
    let is = at.1 in
    sym (reached xs i x (omega arith) (λ k lt. let less = above_front 0 xs k i rise lt low in omega arith))
    ∙ put_there xs i x (get_or xs i 0) low refl (sym is)
placed xs x (Err i) rise h =
    let at = searched xs x (Err i) h (λ a b. no_less xs a b rise) in
    let start = sym (reached xs i x at.0 at.1) in
    elim (cases_lt i (length xs)) [
      | inl lt ↦ (at.0, start ∙ put_before xs i x (get_or xs i 0) lt refl (at.2 i (omega arith) lt))
      | inr ge ↦ (at.0, start ∙ put_last xs i x ge)
    ]

-- a number that the search doesn't find can be put in and taken out again
pub fresh : (xs : List ℕ) (x i : ℕ) → rises_from 0 xs ≡ true → IsBinarySearchResult (λ y. nat_cmp y x) xs (Err i) → filter (λ u. not (u == x)) (rising_with x xs) ≡ xs
fresh xs x i rise h =
    let at = searched xs x (Err i) h (λ a b. no_less xs a b rise) in
    taken_out x xs (λ k lt same. elim (cases_lt k i) [
      | inl low ↦ absurd (let below = at.1 k low in omega arith)
      | inr high ↦ absurd (let above = at.2 k high lt in omega arith)
    ])
