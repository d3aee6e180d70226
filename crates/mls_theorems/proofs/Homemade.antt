-- Journals that are told equal are equal, the commit calls of a homemade journal's entry reached one epoch secret, and the
-- test for homemade journals says of each journal whether it is one.
use Rattle.std.proofs.Common.{◌≡◌, ℕ, zero, suc, Bool, true, false, ◌&&◌, cond, List, [], ◌∷◌, ◌++◌, map, filter, Some, refl, ap, ap₂, sym, subst, ◌∙◌, slice_get, eqb-true, eq-eqb, true≢false}
use Rattle.std.specs.List.{list_all}
use Rattle.std.specs.Str.{bytes_eq}
use Rattle.std.proofs.lemmas.Bool.{and_parts, and_from}
use Rattle.std.proofs.lemmas.Slice.Eq.{bytes_eq-Decides}
use Rattle.mls_model.specs.declared.origin.Origin.{Origin}
use Rattle.mls_model.specs.declared.origin.Origin.TheVariants as from
use Rattle.mls_model.specs.HomemadeTest.{is_same_origin, are_same_bytes, is_same_entry, are_same_entries, is_same_journal, is_creation, reached_epochs, has_one_value, is_homemade_from, is_homemade}
use Rattle.mls_model.specs.Journal.{Entry, Journal, CommitMade, MadeHere, IsMadeAt}
use Rattle.mls_theorems.proofs.Lists.{some}
use Rattle.mls_theorems.specs.Homemade.{HomemadeIsMade, MadeIsHomemade}

-- ---- equality

origin_is : (a b : Origin) → is_same_origin a b ≡ true → a ≡ b
origin_is (from.Creation k) (from.Creation n) h = ap (λ (i : ℕ). from.Creation i) (eqb-true k n h)
origin_is (from.Creation k) (from.GroupInfo g) h = absurd (true≢false (sym h))
origin_is (from.GroupInfo f) (from.Creation n) h = absurd (true≢false (sym h))
origin_is (from.GroupInfo f) (from.GroupInfo g) h = ap (λ (x : List ℕ). from.GroupInfo x) ((bytes_eq-Decides f g).0 h)

own_origin : (a : Origin) → is_same_origin a a ≡ true
own_origin (from.Creation k) = eq-eqb k k refl
own_origin (from.GroupInfo f) = (bytes_eq-Decides f f).1 refl

names_are : (xs ys : List (List ℕ)) → are_same_bytes xs ys ≡ true → xs ≡ ys
unfolding are_same_bytes
names_are [] [] h = refl
names_are [] (y ∷ ys) h = absurd (true≢false (sym h))
names_are (x ∷ xs) [] h = absurd (true≢false (sym h))
names_are (x ∷ xs) (y ∷ ys) h =
    let p = and_parts (bytes_eq x y) (are_same_bytes xs ys) h in
    ap₂ (λ (b : List ℕ) (bs : List (List ℕ)). b ∷ bs) ((bytes_eq-Decides x y).0 p.0) (names_are xs ys p.1)

own_names : (xs : List (List ℕ)) → are_same_bytes xs xs ≡ true
unfolding are_same_bytes
own_names [] = refl
own_names (x ∷ xs) = and_from _ _ ((bytes_eq-Decides x x).1 refl) (own_names xs)

abbrev pub entry_with : List ℕ → List (List ℕ) → Entry
entry_with commit names = record { commit = commit; named_messages = names }

entry_is : (d e : Entry) → is_same_entry d e ≡ true → d ≡ e
entry_is d e h = let p = and_parts (bytes_eq d.commit e.commit) (are_same_bytes d.named_messages e.named_messages) h in ap₂ entry_with ((bytes_eq-Decides d.commit e.commit).0 p.0) (names_are d.named_messages e.named_messages p.1)

own_entry : (d : Entry) → is_same_entry d d ≡ true
own_entry d = and_from _ _ ((bytes_eq-Decides d.commit d.commit).1 refl) (own_names d.named_messages)

entries_are : (xs ys : List Entry) → are_same_entries xs ys ≡ true → xs ≡ ys
unfolding are_same_entries
entries_are [] [] h = refl
entries_are [] (y ∷ ys) h = absurd (true≢false (sym h))
entries_are (x ∷ xs) [] h = absurd (true≢false (sym h))
entries_are (x ∷ xs) (y ∷ ys) h =
    let p = and_parts (is_same_entry x y) (are_same_entries xs ys) h in
    ap₂ (λ (b : Entry) (bs : List Entry). b ∷ bs) (entry_is x y p.0) (entries_are xs ys p.1)

own_entries : (xs : List Entry) → are_same_entries xs xs ≡ true
unfolding are_same_entries
own_entries [] = refl
own_entries (x ∷ xs) = and_from _ _ (own_entry x) (own_entries xs)

abbrev journal_with : Origin → List Entry → Journal
journal_with origin entries = record { origin = origin; entries = entries }

pub journal_is : (j l : Journal) → is_same_journal j l ≡ true → j ≡ l
journal_is j l h = let p = and_parts (is_same_origin j.origin l.origin) (are_same_entries j.entries l.entries) h in ap₂ journal_with (origin_is j.origin l.origin p.0) (entries_are j.entries l.entries p.1)

own_journal : (j : Journal) → is_same_journal j j ≡ true
own_journal j = and_from _ _ (own_origin j.origin) (own_entries j.entries)

-- ---- what is kept of a list and mapped

kept_at : {A B : Type 0} (f : A → B) (test : A → Bool) (xs : List A) (i : ℕ) (x : A) → slice_get xs i ≡ Some x → test x ≡ true → (j : ℕ) × (slice_get (map f (filter test xs)) j ≡ Some (f x))
kept_at f test [] i x h t = absurd cc
kept_at {A} {B} f test (y ∷ xs) i x h t = by_test (test y) refl (λ k g. kept_at f test xs k x g t) i h
  where
    by_test : (b : Bool) → test y ≡ b → ((k : ℕ) → slice_get xs k ≡ Some x → (j : ℕ) × (slice_get (map f (filter test xs)) j ≡ Some (f x))) → (i : ℕ) → slice_get (y ∷ xs) i ≡ Some x →
        (j : ℕ) × (slice_get (map f (cond b (y ∷ filter test xs) (filter test xs))) j ≡ Some (f x))
    by_test true e rest zero h = let same : y ≡ x = cc in (0, ap (λ (z : A). some (f z)) same)
    by_test true e rest (suc i) h = let r = rest i h in (suc r.0, r.1)
    by_test false e rest zero h = absurd (let same : y ≡ x = cc in true≢false (sym t ∙ ap test (sym same) ∙ e))
    by_test false e rest (suc i) h = rest i h

-- one that is kept, with what it is mapped to
record KeptFrom {A B : Type 0} (f : A → B) (test : A → Bool) (xs : List A) (y : B) : Type 0 where
  place : ℕ
  one : A
  is : slice_get xs place ≡ Some one
  passes : test one ≡ true
  mapped : f one ≡ y

later : {A B : Type 0} (f : A → B) (test : A → Bool) (z : A) (xs : List A) (y : B) → KeptFrom f test xs y → KeptFrom f test (z ∷ xs) y
later f test z xs y k = record { place = suc k.place; one = k.one; is = k.is; passes = k.passes; mapped = k.mapped }

kept_from : {A B : Type 0} (f : A → B) (test : A → Bool) (xs : List A) (j : ℕ) (y : B) → slice_get (map f (filter test xs)) j ≡ Some y → KeptFrom f test xs y
kept_from f test [] j y h = absurd cc
kept_from {A} {B} f test (x ∷ xs) j y h = by_test (test x) refl (λ k g. later f test x xs y (kept_from f test xs k y g)) j h
  where
    by_test : (b : Bool) → test x ≡ b → ((k : ℕ) → slice_get (map f (filter test xs)) k ≡ Some y → KeptFrom f test (x ∷ xs) y) → (j : ℕ) → slice_get (map f (cond b (x ∷ filter test xs) (filter test xs))) j ≡ Some y → KeptFrom f test (x ∷ xs) y
    by_test true e rest zero h = record { place = 0; one = x; is = refl; passes = e; mapped = cc }
    by_test true e rest (suc j) h = rest j h
    by_test false e rest j h = rest j h

-- ---- homemade entries

all_at : {A : Type 0} (test : A → Bool) (xs : List A) (i : ℕ) (x : A) → list_all test xs ≡ true → slice_get xs i ≡ Some x → test x ≡ true
all_at test [] i x h e = absurd cc
all_at test (y ∷ xs) zero x h e = let same : y ≡ x = cc in ap test (sym same) ∙ (and_parts (test y) (list_all test xs) h).0
all_at test (y ∷ xs) (suc i) x h e = all_at test xs i x (and_parts (test y) (list_all test xs) h).1 e

-- all commit calls that made an entry reached one secret, and there is such a call
pub record HasOneSecret (made : List CommitMade) (j : Journal) (e : Entry) : Type 0 where
  pub secret : List ℕ
  pub all : (d : CommitMade) → MadeHere made j e d → d.epoch_secret ≡ secret
  pub which : CommitMade
  pub here : MadeHere made j e which

abbrev epoch_of : CommitMade → List ℕ
epoch_of d = d.epoch_secret

abbrev is_here : Journal → Entry → CommitMade → Bool
is_here j e d = is_same_journal d.journal j && is_same_entry d.entry e

here_from : (made : List CommitMade) (j : Journal) (e : Entry) (y : List ℕ) (k : KeptFrom epoch_of (is_here j e) made y) → MadeHere made j e k.one
here_from made j e y k =
    let p = and_parts (is_same_journal k.one.journal j) (is_same_entry k.one.entry e) k.passes in
    record { place = k.place; is = k.is; journal = journal_is k.one.journal j p.0; entry = entry_is k.one.entry e p.1 }

is_here_at : (j : Journal) (e : Entry) (d : CommitMade) → d.journal ≡ j → d.entry ≡ e → is_here j e d ≡ true
is_here_at j e d a b = and_from _ _ (ap (λ (x : Journal). is_same_journal x j) a ∙ own_journal j) (ap (λ (x : Entry). is_same_entry x e) b ∙ own_entry e)

same_as_first : (x y : List ℕ) (xs : List (List ℕ)) (i : ℕ) → list_all (bytes_eq x) xs ≡ true → slice_get (x ∷ xs) i ≡ Some y → y ≡ x
same_as_first x y xs zero h e = cc
same_as_first x y xs (suc i) h e = sym ((bytes_eq-Decides x y).0 (all_at (bytes_eq x) xs i y h e))

one_of : (made : List CommitMade) (j : Journal) (e : Entry) (xs : List (List ℕ)) → map epoch_of (filter (is_here j e) made) ≡ xs → has_one_value xs ≡ true → HasOneSecret made j e
one_of made j e [] is h = absurd (true≢false (sym h))
one_of made j e (x ∷ xs) is h =
    let k = kept_from epoch_of (is_here j e) made 0 x (ap (λ (l : List (List ℕ)). slice_get l 0) is) in
    record {
      secret = x;
      all = λ d m.
          let p = kept_at epoch_of (is_here j e) made m.place d m.is (is_here_at j e d m.journal m.entry) in
          same_as_first x d.epoch_secret xs p.0 h (ap (λ (l : List (List ℕ)). slice_get l p.0) (sym is) ∙ p.1);
      which = k.one;
      here = here_from made j e x k;
    }

pub one_secret : (made : List CommitMade) (j : Journal) (e : Entry) → has_one_value (reached_epochs made j e) ≡ true → HasOneSecret made j e
unfolding reached_epochs
one_secret made j e h = one_of made j e (map epoch_of (filter (is_here j e) made)) refl h

-- the last entry of a homemade journal, and the journal before it
pub homemade_parts : (made : List CommitMade) (origin : Origin) (e : Entry) (es : List Entry) → is_homemade_from made origin (e ∷ es) ≡ true →
    HasOneSecret made (record { origin = origin; entries = es }) e × (is_homemade_from made origin es ≡ true)
unfolding is_homemade_from
homemade_parts made origin e es h =
    let j : Journal = record { origin = origin; entries = es } in
    let p = and_parts (has_one_value (reached_epochs made j e)) (is_homemade_from made origin es) h in
    (one_secret made j e p.0, p.1)

of_one_secret : (made : List CommitMade) (j : Journal) (e : Entry) → HasOneSecret made j e → IsMadeAt made j e
of_one_secret made j e h = record { which = h.which; here = h.here; one = λ d f a b. h.all d a ∙ sym (h.all f b) }

at_each : {A : Type 0} (test : A → Bool) (xs : List A) → ((i : ℕ) (x : A) → slice_get xs i ≡ Some x → test x ≡ true) → list_all test xs ≡ true
at_each test [] h = refl
at_each test (x ∷ xs) h = and_from (test x) (list_all test xs) (h 0 x refl) (at_each test xs (λ i y e. h (suc i) y e))

of_records : (made : List CommitMade) (j : Journal) (e : Entry) (xs : List (List ℕ)) → map epoch_of (filter (is_here j e) made) ≡ xs → IsMadeAt made j e → has_one_value xs ≡ true
of_records made j e [] is h =
    let p = kept_at epoch_of (is_here j e) made h.here.place h.which h.here.is (is_here_at j e h.which h.here.journal h.here.entry) in
    let found : slice_get [] p.0 ≡ Some h.which.epoch_secret = ap (λ (l : List (List ℕ)). slice_get l p.0) (sym is) ∙ p.1 in
    absurd cc
of_records made j e (x ∷ xs) is h =
    let first = kept_from epoch_of (is_here j e) made 0 x (ap (λ (l : List (List ℕ)). slice_get l 0) is) in
    at_each (bytes_eq x) xs (λ i y g.
    let k = kept_from epoch_of (is_here j e) made (suc i) y (ap (λ (l : List (List ℕ)). slice_get l (suc i)) is ∙ g) in
    (bytes_eq-Decides x y).1 (sym first.mapped ∙ h.one first.one k.one (here_from made j e x first) (here_from made j e y k) ∙ k.mapped))

one_reached : (made : List CommitMade) (j : Journal) (e : Entry) → IsMadeAt made j e → has_one_value (reached_epochs made j e) ≡ true
unfolding reached_epochs
one_reached made j e h = of_records made j e (map epoch_of (filter (is_here j e) made)) refl h

of_creation : (a : Origin) → is_creation a ≡ true → (k : ℕ) × (a ≡ from.Creation k)
of_creation (from.Creation k) h = (k, refl)
of_creation (from.GroupInfo g) h = absurd (true≢false (sym h))

origin_of : (made : List CommitMade) (origin : Origin) (es : List Entry) → is_homemade_from made origin es ≡ true → is_creation origin ≡ true
unfolding is_homemade_from
origin_of made origin [] h = h
origin_of made origin (e ∷ es) h = origin_of made origin es (homemade_parts made origin e es h).1

no_entry : (e : Entry) (xs : List Entry) → [] ≡ e ∷ xs → ⊥
no_entry e xs h = absurd cc

first_entry : (d e : Entry) (xs ys : List Entry) → d ∷ xs ≡ e ∷ ys → d ≡ e
first_entry d e xs ys h = cc

other_entries : (d e : Entry) (xs ys : List Entry) → d ∷ xs ≡ e ∷ ys → xs ≡ ys
other_entries d e xs ys h = cc

entries_of : (made : List CommitMade) (origin : Origin) (es : List Entry) → is_homemade_from made origin es ≡ true →
    (later : List Entry) (e : Entry) (earlier : List Entry) → es ≡ later ++ (e ∷ earlier) → IsMadeAt made (journal_with origin earlier) e
entries_of made origin [] h [] e earlier is = absurd (no_entry e earlier is)
entries_of made origin [] h (x ∷ later) e earlier is = absurd (no_entry x (later ++ (e ∷ earlier)) is)
entries_of made origin (d ∷ es) h [] e earlier is =
    let same : d ≡ e = first_entry d e es earlier is in
    let rest : es ≡ earlier = other_entries d e es earlier is in
    subst (λ (l : List Entry). IsMadeAt made (journal_with origin l) e) rest
    (subst (λ (x : Entry). IsMadeAt made (journal_with origin es) x) same
    (of_one_secret made (journal_with origin es) d (homemade_parts made origin d es h).0))
entries_of made origin (d ∷ es) h (x ∷ later) e earlier is =
    let rest : es ≡ later ++ (e ∷ earlier) = other_entries d x es (later ++ (e ∷ earlier)) is in entries_of made origin es (homemade_parts made origin d es h).1 later e earlier rest

of_entries : (made : List CommitMade) (origin : Origin) (es : List Entry) → is_creation origin ≡ true →
    ((later : List Entry) (e : Entry) (earlier : List Entry) → es ≡ later ++ (e ∷ earlier) → IsMadeAt made (journal_with origin earlier) e) → is_homemade_from made origin es ≡ true
unfolding is_homemade_from
of_entries made origin [] o h = o
of_entries made origin (d ∷ es) o h =
    and_from (has_one_value (reached_epochs made (journal_with origin es) d)) (is_homemade_from made origin es) (one_reached made (journal_with origin es) d (h [] d es refl))
    (of_entries made origin es o (λ later e earlier is. h (d ∷ later) e earlier (ap (λ (l : List Entry). d ∷ l) is)))

pub homemade_is_made : HomemadeIsMade
unfolding is_homemade
homemade_is_made made j h =
    let o = of_creation j.origin (origin_of made j.origin j.entries h) in
    record { number = o.0; creation = o.1; entries = entries_of made j.origin j.entries h }

pub made_is_homemade : MadeIsHomemade
unfolding is_homemade
made_is_homemade made j h = of_entries made j.origin j.entries (ap (λ (a : Origin). is_creation a) h.creation) h.entries
