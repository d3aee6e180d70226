-- One of several.
use Rattle.std.proofs.Common.{◌≡◌, Bool, true, false, cond, List, [], ◌∷◌, ◌++◌, Option, Some, ◌⊎◌, inl, inr, sym, ap, ◌∙◌, subst, refl}
use Rattle.std.specs.Prelude.{find}
use Rattle.std.specs.List.{AllByRecursion}
use Rattle.std.proofs.lemmas.Bool.{true≢false}

-- a value stands in a list
unfoldable pub IsOneOf : {A : Type 0} → A → List A → Type 0
IsOneOf x [] = ⊥
IsOneOf x (y ∷ ys) = (y ≡ x) ⊎ IsOneOf x ys

-- what all of them are, it is
pub at_one : {A : Type 0} (P : A → Type 0) (x : A) (ys : List A) → AllByRecursion P ys → IsOneOf x ys → P x
unfolding IsOneOf
at_one P x [] all is = absurd is
at_one P x (y ∷ ys) all (inl e) = subst P e all.0
at_one P x (y ∷ ys) all (inr is) = at_one P x ys all.1 is

-- and what each of them is, all are
pub all_of : {A : Type 0} (P : A → Type 0) (ys : List A) → ((x : A) → IsOneOf x ys → P x) → AllByRecursion P ys
unfolding IsOneOf
all_of P [] each = tt
all_of P (y ∷ ys) each = (each y (inl refl), all_of P ys (λ x is. each x (inr is)))

pub all_both : {A : Type 0} (P : A → Type 0) (xs ys : List A) → AllByRecursion P xs → AllByRecursion P ys → AllByRecursion P (xs ++ ys)
all_both P [] ys a b = b
all_both P (x ∷ xs) ys a b = (a.0, all_both P xs ys a.1 b)

pub all_parted : {A : Type 0} (P : A → Type 0) (xs ys : List A) → AllByRecursion P (xs ++ ys) → AllByRecursion P xs × AllByRecursion P ys
all_parted P [] ys a = (tt, a)
all_parted P (x ∷ xs) ys a = let r = all_parted P xs ys a.1 in ((a.0, r.0), r.1)

pub one_left : {A : Type 0} (x : A) (xs ys : List A) → IsOneOf x xs → IsOneOf x (xs ++ ys)
unfolding IsOneOf
one_left x [] ys is = absurd is
one_left x (y ∷ xs) ys (inl e) = inl e
one_left x (y ∷ xs) ys (inr is) = inr (one_left x xs ys is)

pub one_right : {A : Type 0} (x : A) (xs ys : List A) → IsOneOf x ys → IsOneOf x (xs ++ ys)
unfolding IsOneOf
one_right x [] ys is = is
one_right x (y ∷ xs) ys is = inr (one_right x xs ys is)

-- what is looked for is found, where nothing else passes the test
found_by : {A : Type 0} (x p : A) (b : Bool) (o : Option A) → (b ≡ true → x ≡ p) → (b ≡ false → o ≡ Some p) → cond b (Some x) o ≡ Some p
found_by x p true o here later = ap Some (here refl)
found_by x p false o here later = later refl

pub finds_one : {A : Type 0} (test : A → Bool) (p : A) (xs : List A) → IsOneOf p xs → test p ≡ true → ((q : A) → IsOneOf q xs → test q ≡ true → q ≡ p) → find test xs ≡ Some p
unfolding IsOneOf
finds_one test p [] is t only = absurd is
finds_one test p (x ∷ xs) (inl e) t only = found_by x p (test x) (find test xs) (λ f. e) (λ f. absurd (true≢false (sym t ∙ ap test (sym e) ∙ f)))
finds_one test p (x ∷ xs) (inr is) t only = found_by x p (test x) (find test xs) (λ f. only x (inl refl) f) (λ f. finds_one test p xs is t (λ q h. only q (inr h)))

-- and what was found stands there, and passes
picked_by : {A : Type 0} (P : A → Type 0) (x p : A) (b : Bool) (o : Option A) → (b ≡ true → P x) → (o ≡ Some p → P p) → cond b (Some x) o ≡ Some p → P p
picked_by P x p true o here later e = let same : x ≡ p = cc in subst P same (here refl)
picked_by P x p false o here later e = later e

pub was_found : {A : Type 0} (test : A → Bool) (p : A) (xs : List A) → find test xs ≡ Some p → IsOneOf p xs × (test p ≡ true)
unfolding IsOneOf
was_found test p [] e = absurd cc
was_found {A} test p (x ∷ xs) e =
    picked_by (λ (y : A). IsOneOf y (x ∷ xs) × (test y ≡ true)) x p (test x) (find test xs) (λ t. (inl refl, t)) (λ f. let r = was_found test p xs f in (inr r.0, r.1)) e

pub one_parted : {A : Type 0} (x : A) (xs ys : List A) → IsOneOf x (xs ++ ys) → IsOneOf x xs ⊎ IsOneOf x ys
unfolding IsOneOf
one_parted x [] ys is = inr is
one_parted x (y ∷ xs) ys (inl e) = inl (inl e)
one_parted x (y ∷ xs) ys (inr is) = elim (one_parted x xs ys is) [ inl a ↦ inl (inr a) | inr b ↦ inr b ]
