-- Look-ups in lists that grow or change at one place.
use Rattle.std.proofs.Common.{◌≡◌, ◌≢◌, ℕ, zero, suc, ◌+◌, ◌<◌, List, [], ◌∷◌, ◌++◌, length, Bool, true, false, cond, find, Option, Some, None, refl, ap, sym, ◌∙◌, ◌⊎◌, inl, inr, slice_get, slice_set, arith, true≢false}
use Rattle.mls_theorems.specs.Lists.{Grows}

abbrev pub some : {A : Type 0} → A → Option A
some x = Some x

-- one value is there
pub one_there : {A : Type 0} (o : Option A) (x y : A) → o ≡ Some x → o ≡ Some y → x ≡ y
one_there o x y a b = cc

pub none_there : {A : Type 0} (o : Option A) (x : A) → o ≡ None → o ≡ Some x → ⊥
none_there o x a b = cc

pub grows_none : {A : Type 0} (xs : List A) → Grows xs xs
grows_none xs i x h = h

pub get_append : {A : Type 0} (xs ys : List A) (i : ℕ) (x : A) → slice_get xs i ≡ Some x → slice_get (xs ++ ys) i ≡ Some x
get_append [] ys i x h = absurd cc
get_append (y ∷ xs) ys zero x h = h
get_append (y ∷ xs) ys (suc i) x h = get_append xs ys i x h

-- the new last one
pub get_length : {A : Type 0} (xs : List A) (y : A) → slice_get (xs ++ (y ∷ [])) (length xs) ≡ Some y
get_length [] y = refl
get_length (x ∷ xs) y = get_length xs y

-- with one more at its end a list has what it had, and the new one
pub get_last : {A : Type 0} (xs : List A) (y : A) (i : ℕ) (x : A) → slice_get (xs ++ (y ∷ [])) i ≡ Some x → (slice_get xs i ≡ Some x) ⊎ ((i ≡ length xs) × (y ≡ x))
get_last [] y zero x h = inr (refl, cc)
get_last [] y (suc i) x h = absurd cc
get_last (z ∷ xs) y zero x h = inl h
get_last (z ∷ xs) y (suc i) x h = elim (get_last xs y i x h) [ inl e ↦ inl e | inr e ↦ inr (ap suc e.0, e.1) ]

-- what stands in two lists, one behind the other
pub get_either : {A : Type 0} (xs ys : List A) (i : ℕ) (x : A) → slice_get (xs ++ ys) i ≡ Some x → (slice_get xs i ≡ Some x) ⊎ ((j : ℕ) × (slice_get ys j ≡ Some x))
get_either [] ys i x h = inr (i, h)
get_either (z ∷ xs) ys zero x h = inl h
get_either (z ∷ xs) ys (suc i) x h = get_either xs ys i x h

-- the first of what stands behind a list
pub get_first : {A : Type 0} (xs ys : List A) (y : A) → slice_get (xs ++ (y ∷ ys)) (length xs) ≡ Some y
get_first [] ys y = refl
get_first (x ∷ xs) ys y = get_first xs ys y

-- and the second
second_at : {A : Type 0} (xs ys : List A) (y z : A) (k : ℕ) → k ≡ length xs + 1 → slice_get (xs ++ (y ∷ (z ∷ ys))) k ≡ Some z
second_at [] ys y z zero e = absurd (omega arith)
second_at [] ys y z (suc zero) e = refl
second_at [] ys y z (suc (suc k)) e = absurd (omega arith)
second_at (x ∷ xs) ys y z zero e = absurd (omega arith)
second_at (x ∷ xs) ys y z (suc k) e = second_at xs ys y z k (omega arith)

pub get_second : {A : Type 0} (xs ys : List A) (y z : A) → slice_get (xs ++ (y ∷ (z ∷ ys))) (length xs + 1) ≡ Some z
get_second xs ys y z = second_at xs ys y z (length xs + 1) refl

-- a place that is taken stands in the list
pub get_below : {A : Type 0} (xs : List A) (i : ℕ) (x : A) → slice_get xs i ≡ Some x → i < length xs
get_below [] i x h = absurd cc
get_below (y ∷ xs) zero x h = omega arith
get_below (y ∷ xs) (suc i) x h = let l = get_below xs i x h in omega arith

-- with one place changed a list has the new one there, and else what it had
pub get_set : {A : Type 0} (xs : List A) (k : ℕ) (y : A) (i : ℕ) (x : A) → slice_get (slice_set xs k y) i ≡ Some x → ((i ≡ k) × (y ≡ x)) ⊎ ((i ≢ k) × (slice_get xs i ≡ Some x))
get_set [] k y i x h = absurd cc
get_set (z ∷ xs) zero y zero x h = inl (refl, cc)
get_set (z ∷ xs) zero y (suc i) x h = inr ((λ e. omega arith), h)
get_set (z ∷ xs) (suc k) y zero x h = inr ((λ e. omega arith), h)
get_set (z ∷ xs) (suc k) y (suc i) x h = elim (get_set xs k y i x h) [ inl e ↦ inl (ap suc e.0, e.1) | inr e ↦ inr ((λ f. e.0 (omega arith)), e.1) ]

pub set_here : {A : Type 0} (xs : List A) (k : ℕ) (y x : A) → slice_get xs k ≡ Some x → slice_get (slice_set xs k y) k ≡ Some y
set_here [] k y x h = absurd cc
set_here (z ∷ xs) zero y x h = refl
set_here (z ∷ xs) (suc k) y x h = set_here xs k y x h

pub set_other : {A : Type 0} (xs : List A) (k : ℕ) (y : A) (i : ℕ) (x : A) → i ≢ k → slice_get xs i ≡ Some x → slice_get (slice_set xs k y) i ≡ Some x
set_other [] k y i x apart h = absurd cc
set_other (z ∷ xs) zero y zero x apart h = absurd (apart refl)
set_other (z ∷ xs) zero y (suc i) x apart h = h
set_other (z ∷ xs) (suc k) y zero x apart h = h
set_other (z ∷ xs) (suc k) y (suc i) x apart h = set_other xs k y i x (λ e. apart (ap suc e)) h

-- ---- the first that passes a test

picked : {A : Type 0} (b : Bool) (x y : A) (o : Option A) → cond b (Some x) o ≡ Some y → ((b ≡ true) × (x ≡ y)) ⊎ (o ≡ Some y)
picked true x y o e = inl (refl, cc)
picked false x y o e = inr e

-- it stands in the list and passes
pub find_stands : {A : Type 0} (test : A → Bool) (xs : List A) (x : A) → find test xs ≡ Some x → (i : ℕ) × (slice_get xs i ≡ Some x) × (test x ≡ true)
find_stands test [] x h = absurd cc
find_stands {A} test (y ∷ xs) x h = by_cases (picked (test y) y x (find test xs) h) (find_stands test xs x)
  where
    by_cases : ((test y ≡ true) × (y ≡ x)) ⊎ (find test xs ≡ Some x) → (find test xs ≡ Some x → (i : ℕ) × (slice_get xs i ≡ Some x) × (test x ≡ true)) → (i : ℕ) × (slice_get (y ∷ xs) i ≡ Some x) × (test x ≡ true)
    by_cases (inl e) rest = (0, ap (λ (z : A). some z) e.1, ap test (sym e.1) ∙ e.0)
    by_cases (inr e) rest = let r = rest e in (suc r.0, r.1, r.2)

-- where one passes there is a first that does
pub find_one : {A : Type 0} (test : A → Bool) (xs : List A) (i : ℕ) (x : A) → slice_get xs i ≡ Some x → test x ≡ true → (y : A) × (find test xs ≡ Some y)
find_one test [] i x h t = absurd cc
find_one {A} test (y ∷ xs) i x h t = by_test (test y) refl (λ j g. find_one test xs j x g t) i h
  where
    by_test : (b : Bool) → test y ≡ b → ((j : ℕ) → slice_get xs j ≡ Some x → (z : A) × (find test xs ≡ Some z)) → (i : ℕ) → slice_get (y ∷ xs) i ≡ Some x → (z : A) × (cond b (Some y) (find test xs) ≡ Some z)
    by_test true e rest i h = (y, refl)
    by_test false e rest zero h = absurd (let same : y ≡ x = cc in true≢false (sym t ∙ ap test (sym same) ∙ e))
    by_test false e rest (suc i) h = rest i h

-- the first that passes stays so in a longer list
pub find_append : {A : Type 0} (test : A → Bool) (xs ys : List A) (x : A) → find test xs ≡ Some x → find test (xs ++ ys) ≡ Some x
find_append test [] ys x h = absurd cc
find_append {A} test (y ∷ xs) ys x h = by_test (test y) (find test xs) (find test (xs ++ ys)) (find_append test xs ys x) h
  where
    by_test : (b : Bool) (o p : Option A) → (o ≡ Some x → p ≡ Some x) → cond b (Some y) o ≡ Some x → cond b (Some y) p ≡ Some x
    by_test true o p rest h = h
    by_test false o p rest h = rest h
