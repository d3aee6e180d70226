-- Which commit a joiner's Welcome was made by: the first record that has this Welcome and adds the candidate.
use Rattle.std.proofs.Common.{◌≡◌, ℕ, zero, suc, ◌<◌, Bool, true, false, ◌&&◌, ◌||◌, cond, find, List, [], ◌∷◌, Option, Some, None, refl, ap, sym, ◌∙◌, slice_get, arith, eqb-true, eq-eqb, true≢false}
use Rattle.std.specs.List.{list_any}
use Rattle.std.specs.Str.{bytes_eq}
use Rattle.std.proofs.lemmas.Bool.{and_parts, or_right, and_from}
use Rattle.std.proofs.lemmas.Slice.Eq.{bytes_eq-Decides}
use Rattle.mls_leaf.specs.KeyPackage.{key_package}
use Rattle.mls_model.specs.declared.event.Source.{Source}
use Rattle.mls_model.specs.declared.event.Source.TheVariants.{Given, Message}
use Rattle.mls_model.specs.Candidate.{Candidate}
use Rattle.mls_model.specs.Journal.{CommitMade}
use Rattle.mls_model.specs.World.{has_source, commit_for_joiner}
use Rattle.mls_model.specs.WorldLaws.{IsSourceOf, IsFor, FoundIsFirst, FirstIsFound, NoneIsFound, NoneToFind}

-- ---- the first of a list that passes a test

abbrev some : {A : Type 0} → A → Option A
some x = Some x

record IsFirst {A : Type 0} (test : A → Bool) (xs : List A) (x : A) : Type 0 where
  place : ℕ
  is : slice_get xs place ≡ Some x
  passes : test x ≡ true
  before : (i : ℕ) (y : A) → i < place → slice_get xs i ≡ Some y → test y ≡ false

later : {A : Type 0} (test : A → Bool) (y : A) (xs : List A) (n : ℕ) → test y ≡ false → ((i : ℕ) (z : A) → i < n → slice_get xs i ≡ Some z → test z ≡ false) →
    (i : ℕ) (z : A) → i < suc n → slice_get (y ∷ xs) i ≡ Some z → test z ≡ false
later test y xs n e rest zero z l h = let same : y ≡ z = cc in ap test (sym same) ∙ e
later test y xs n e rest (suc i) z l h = rest i z (omega arith) h

first_found : {A : Type 0} (test : A → Bool) (xs : List A) (x : A) → find test xs ≡ Some x → IsFirst test xs x
first_found test [] x h = absurd cc
first_found {A} test (y ∷ xs) x h = by_test (test y) refl (first_found test xs x) h
  where
    by_test : (b : Bool) → test y ≡ b → (find test xs ≡ Some x → IsFirst test xs x) → cond b (Some y) (find test xs) ≡ Some x → IsFirst test (y ∷ xs) x
    by_test true e rest h =
        let same : y ≡ x = cc in
        record { place = 0; is = ap (λ (z : A). some z) same; passes = ap test (sym same) ∙ e; before = λ i z l g. absurd (omega arith) }
    by_test false e rest h =
        let r = rest h in
        record { place = suc r.place; is = r.is; passes = r.passes; before = later test y xs r.place e r.before }

finds_first : {A : Type 0} (test : A → Bool) (xs : List A) (x : A) (n : ℕ) → slice_get xs n ≡ Some x → test x ≡ true → ((i : ℕ) (y : A) → i < n → slice_get xs i ≡ Some y → test y ≡ false) → find test xs ≡ Some x
finds_first test [] x n is t before = absurd cc
finds_first {A} test (y ∷ xs) x zero is t before =
    let same : y ≡ x = cc in
    ap (λ (b : Bool). cond b (some y) (find test xs)) (ap test same ∙ t) ∙ ap (λ (z : A). some z) same
finds_first {A} test (y ∷ xs) x (suc n) is t before =
    ap (λ (b : Bool). cond b (some y) (find test xs)) (before 0 y (omega arith) refl)
    ∙ finds_first test xs x n is t (λ i z l h. before (suc i) z (omega arith) h)

none_passes : {A : Type 0} (test : A → Bool) (xs : List A) → find test xs ≡ None → (i : ℕ) (x : A) → slice_get xs i ≡ Some x → test x ≡ false
none_passes test [] h i x e = absurd cc
none_passes {A} test (y ∷ xs) h i x e = by_test (test y) refl (none_passes test xs) h i x e
  where
    by_test : (b : Bool) → test y ≡ b → (find test xs ≡ None → (i : ℕ) (x : A) → slice_get xs i ≡ Some x → test x ≡ false) → cond b (Some y) (find test xs) ≡ None →
        (i : ℕ) (x : A) → slice_get (y ∷ xs) i ≡ Some x → test x ≡ false
    by_test true e rest h i x g = absurd cc
    by_test false e rest h zero x g = let same : y ≡ x = cc in ap test (sym same) ∙ e
    by_test false e rest h (suc i) x g = rest h i x g

finds_none : {A : Type 0} (test : A → Bool) (xs : List A) → ((i : ℕ) (x : A) → slice_get xs i ≡ Some x → test x ≡ false) → find test xs ≡ None
finds_none test [] h = refl
finds_none test (y ∷ xs) h = ap (λ (b : Bool). cond b (some y) (find test xs)) (h 0 y refl) ∙ finds_none test xs (λ i x e. h (suc i) x e)

-- ---- one of a list

any_stands : (b : List ℕ) (xs : List (List ℕ)) → list_any (bytes_eq b) xs ≡ true → (i : ℕ) × (slice_get xs i ≡ Some b)
any_stands b [] h = absurd (true≢false (sym h))
any_stands b (x ∷ xs) h = by_test (bytes_eq b x) refl (any_stands b xs) h
  where
    by_test : (t : Bool) → bytes_eq b x ≡ t → (list_any (bytes_eq b) xs ≡ true → (i : ℕ) × (slice_get xs i ≡ Some b)) → (t || list_any (bytes_eq b) xs) ≡ true → (i : ℕ) × (slice_get (x ∷ xs) i ≡ Some b)
    by_test true e rest h = (0, ap (λ (y : List ℕ). some y) (sym ((bytes_eq-Decides b x).0 e)))
    by_test false e rest h = let r = rest h in (suc r.0, r.1)

any_of : (b : List ℕ) (xs : List (List ℕ)) (i : ℕ) → slice_get xs i ≡ Some b → list_any (bytes_eq b) xs ≡ true
any_of b [] i h = absurd cc
any_of b (x ∷ xs) zero h = let same : x ≡ b = cc in ap (λ (t : Bool). t || list_any (bytes_eq b) xs) ((bytes_eq-Decides b x).1 (sym same))
any_of b (x ∷ xs) (suc i) h = or_right (bytes_eq b x) (list_any (bytes_eq b) xs) (any_of b xs i h)

abbrev pub is_for : Source → Candidate → CommitMade → Bool
is_for source k d = has_source source d.welcome && list_any (bytes_eq (key_package.spell k.offered)) d.adds

source_of : (source : Source) (o : Option (ℕ × List ℕ)) → has_source source o ≡ true → (w : ℕ × List ℕ) × (o ≡ Some w) × IsSourceOf source w
source_of source None h = absurd (true≢false (sym h))
source_of (Given bytes) (Some w) h = (w, refl, (bytes_eq-Decides bytes.items w.1).0 h)
source_of (Message n) (Some w) h = (w, refl, eqb-true n w.0 h)

has_of : (source : Source) (w : ℕ × List ℕ) → IsSourceOf source w → has_source source (Some w) ≡ true
has_of (Given bytes) w h = (bytes_eq-Decides bytes.items w.1).1 h
has_of (Message n) w h = eq-eqb n w.0 h

for_of : (source : Source) (k : Candidate) (d : CommitMade) → is_for source k d ≡ true → IsFor source k d
for_of source k d h =
    let p = and_parts (has_source source d.welcome) (list_any (bytes_eq (key_package.spell k.offered)) d.adds) h in
    let s = source_of source d.welcome p.0 in
    let a = any_stands (key_package.spell k.offered) d.adds p.1 in
    record { welcome = s.0; is_welcome = s.1; is_source = s.2; place = a.0; adds = a.1 }

of_for : (source : Source) (k : Candidate) (d : CommitMade) → IsFor source k d → is_for source k d ≡ true
of_for source k d h =
    and_from (has_source source d.welcome) (list_any (bytes_eq (key_package.spell k.offered)) d.adds)
    (ap (has_source source) h.is_welcome ∙ has_of source h.welcome h.is_source)
    (any_of (key_package.spell k.offered) d.adds h.place h.adds)

not_for : (source : Source) (k : Candidate) (d : CommitMade) → is_for source k d ≡ false → IsFor source k d → ⊥
not_for source k d e h = true≢false (sym (of_for source k d h) ∙ e)

for_none : (source : Source) (k : Candidate) (d : CommitMade) → (IsFor source k d → ⊥) → is_for source k d ≡ false
for_none source k d h = by_test (is_for source k d) refl
  where
    by_test : (b : Bool) → is_for source k d ≡ b → b ≡ false
    by_test true e = absurd (h (for_of source k d e))
    by_test false e = refl

pub found_is_first : FoundIsFirst
unfolding commit_for_joiner
found_is_first made source k d h =
    let f = first_found (is_for source k) made d h in
    record { place = f.place; is = f.is; fits = for_of source k d f.passes; before = λ i e l g. not_for source k e (f.before i e l g) }

pub first_is_found : FirstIsFound
unfolding commit_for_joiner
first_is_found made source k d h = finds_first (is_for source k) made d h.place h.is (of_for source k d h.fits) (λ i e l g. for_none source k e (h.before i e l g))

pub none_is_found : NoneIsFound
unfolding commit_for_joiner
none_is_found made source k h i d e = not_for source k d (none_passes (is_for source k) made h i d e)

pub none_to_find : NoneToFind
unfolding commit_for_joiner
none_to_find made source k h = finds_none (is_for source k) made (λ i d e. for_none source k d (h i d e))
