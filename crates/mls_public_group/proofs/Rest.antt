-- A list from an index on.
use Rattle.std.proofs.Common.{◌≡◌, ℕ, zero, suc, ◌+◌, ◌<◌, ◌≤◌, List, [], ◌∷◌, ◌++◌, length, get_or, drop, refl, sym, ap, subst, ◌∙◌, arith, add-one}
use Rattle.std.proofs.Math.Seq.{drop-cons}
use Rattle.std.specs.List.{AllByRecursion}

-- the item there, and the rest
pub here : {A : Type 0} (xs : List A) (k : ℕ) (x : A) → k < length xs → x ≡ get_or xs k x → drop k xs ≡ x ∷ drop (k + 1) xs
here {A} xs k x lt is = drop-cons xs k x lt ∙ ap (λ (y : A). y ∷ drop (suc k) xs) (sym is) ∙ ap (λ (j : ℕ). x ∷ drop j xs) (sym (add-one k))

-- the same of numbers
pub here_number : (xs : List ℕ) (k : ℕ) → k < length xs → drop k xs ≡ get_or xs k 0 ∷ drop (k + 1) xs
here_number xs k lt = drop-cons xs k 0 lt ∙ ap (λ (j : ℕ). get_or xs k 0 ∷ drop j xs) (sym (add-one k))

-- nothing at the end
pub over : {A : Type 0} (xs : List A) (k : ℕ) → length xs ≤ k → drop k xs ≡ []
over [] zero le = refl
over [] (suc k) le = refl
over (x ∷ xs) zero le = absurd (omega arith)
over (x ∷ xs) (suc k) le = over xs k (omega arith)

-- what all have, the item has
pub all_at : {A : Type 0} (P : A → Type 0) (xs : List A) (k : ℕ) (x : A) → AllByRecursion P xs → k < length xs → x ≡ get_or xs k x → P x
all_at P [] k x all lt is = absurd (omega arith)
all_at {A} P (y ∷ ys) zero x all lt is = subst P (sym is) all.0
all_at P (y ∷ ys) (suc k) x all lt is = all_at P ys k x all.1 (omega arith) is

-- and what all have and one more, all have with it behind them
pub all_behind : {A : Type 0} (P : A → Type 0) (xs : List A) (x : A) → AllByRecursion P xs → P x → AllByRecursion P (xs ++ x ∷ [])
all_behind P [] x all p = (p, tt)
all_behind P (y ∷ ys) x all p = (all.0, all_behind P ys x all.1 p)
