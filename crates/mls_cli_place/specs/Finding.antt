-- A walk finds the fault that reading past answers, and a place inside the bytes.
use Rattle.std.specs.Prelude.{◌≡◌, ℕ, zero, suc, ◌+◌, ◌≤◌, ◌^◌, ◌==◌, Bool, true, false, cond, if◌then◌else◌, List, [], ◌∷◌, ◌++◌, length, Option, Some, Result, Ok, Err, refl}
use Rattle.std.specs.Int.{Width, w8}
use Rattle.std.proofs.Common.{sym, ap, ◌∙◌, arith}
use Rattle.std.proofs.lemmas.List.{length-append}
use Rattle.mls_wire.specs.Reading.{◌>>=◌, rest_of, uint, uint_at, header, opaque, opaque_at}
use Rattle.mls_wire.specs.Format.{IsBytes, Takes, Format, Skip}
use Rattle.mls_wire.specs.Laws.{IsWide, ok_is, uint_lawful, opaque_takes, opaque_bytes, wide8}
use Rattle.mls_wire.specs.CombineLaws.{good}
use Rattle.mls_wire.specs.Combine.{Cases, case, left_format, is_optional_tag, optional, optional_body, optional_tag_of, others, right_format, vector}
use Rattle.mls_wire.specs.CombineReads.{IsNonempty, body_past, items_past}
use Rattle.mls_cli_place.specs.declared.place.Found.{Found}
use Rattle.mls_cli_place.specs.declared.step.Step.{Step}
use Rattle.mls_cli_place.specs.declared.step.Step.TheVariants.{Item}
use Rattle.mls_cli_place.specs.Walk.{◌▷◌, Walk, all_items, at_front, by_tag, case_of, chosen, content_before, enclosed, enclosed_by, field, followed, inside, items, located, no_case, no_field, one, vector_of}
use Rattle.mls_cli_place.specs.Tree.{in_no_field, optional_of, presences}

-- the number alone
abbrev pub number_in : {A : Type 0} → Result A Found → Result A ℕ
number_in (Ok x) = Ok x
number_in (Err f) = Err f.fault

-- what is left is the end of the bytes, and a fault is at one of them or behind the last
abbrev pub Within : List ℕ → Result (List ℕ) Found → Type 0
Within bytes (Ok rest) = (length rest ≤ length bytes) × IsBytes rest
Within bytes (Err f) = f.left ≤ length bytes

pub record Finds (walk : Walk) (pass : List ℕ → Result (List ℕ) ℕ) : Type 0 where
  pub same : (bytes : List ℕ) → number_in (walk bytes) ≡ pass bytes
  pub within : (bytes : List ℕ) → IsBytes bytes → Within bytes (walk bytes)

-- ---- what is read as one

number_located : {A : Type 0} (bytes : List ℕ) (r : Result A ℕ) → number_in (located bytes r) ≡ r
number_located bytes (Ok x) = refl
number_located bytes (Err n) = refl

pub shorter : (bytes text rest : List ℕ) → Takes bytes text rest → length rest ≤ length bytes
shorter bytes text rest t = let len : length bytes ≡ length (text ++ rest) = ap length t.parts in omega (arith, len, length-append text rest)

located_within : (bytes : List ℕ) (r : Result (List ℕ) ℕ) → ((rest : List ℕ) → r ≡ Ok rest → (length rest ≤ length bytes) × IsBytes rest) → Within bytes (located bytes r)
located_within bytes (Ok rest) h = h rest refl
located_within bytes (Err n) h = omega arith

read_value : {V : Type 0} (r : Result (V × List ℕ) ℕ) (rest : List ℕ) → rest_of r ≡ Ok rest → (v : V) × (r ≡ Ok (v, rest))
read_value {V} (Ok x) rest e = (x.0, ap (λ (l : List ℕ). good x.0 l) (ok_is x.1 rest e))
read_value (Err n) rest e = absurd cc

format_shorter : {V : Type 0} (a : Format V) (bytes rest : List ℕ) → IsBytes bytes → a.pass bytes ≡ Ok rest → (length rest ≤ length bytes) × IsBytes rest
format_shorter a bytes rest fits e =
    let v = read_value (a.read bytes) rest (sym (a.passes bytes) ∙ e) in
    let t = a.lawful.takes bytes v.0 rest fits v.1 in
    (shorter bytes (a.spell v.0) rest t.0, t.0.rest_fits)

pub finds_one : {V : Type 0} (a : Format V) → Finds (one a.pass) a.pass
finds_one a = record {
  same = λ bytes. number_located bytes (a.pass bytes);
  within = λ bytes fits. located_within bytes (a.pass bytes) (λ rest e. format_shorter a bytes rest fits e);
}

pub finds_skip : (s : Skip) → Finds (one s.read) s.read
finds_skip s = record {
  same = λ bytes. number_located bytes (s.read bytes);
  within = λ bytes fits. located_within bytes (s.read bytes) (λ rest e. let t = s.takes bytes rest fits e in (shorter bytes s.spell rest t, t.rest_fits));
}

-- ---- inside a field, and one behind the other

pub number_inside : {A : Type 0} (step : Step) (r : Result A Found) → number_in (inside step r) ≡ number_in r
number_inside step (Ok x) = refl
number_inside step (Err f) = refl

pub inside_within : (step : Step) (bytes : List ℕ) (r : Result (List ℕ) Found) → Within bytes r → Within bytes (inside step r)
inside_within step bytes (Ok rest) h = h
inside_within step bytes (Err f) h = h

pub finds_field : {walk : Walk} {pass : List ℕ → Result (List ℕ) ℕ} (step : Step) → Finds walk pass → Finds (field step walk) pass
finds_field {walk} {pass} step h = record {
  same = λ bytes. number_inside step (walk bytes) ∙ h.same bytes;
  within = λ bytes fits. inside_within step bytes (walk bytes) (h.within bytes fits);
}

pub number_followed : {A B : Type 0} (r : Result A Found) (walk : A → Result B Found) (pass : A → Result B ℕ) → ((x : A) → number_in (walk x) ≡ pass x) → number_in (followed r walk) ≡ (number_in r >>= pass)
number_followed (Ok x) walk pass h = h x
number_followed (Err f) walk pass h = refl

longer_within : (bytes rest : List ℕ) (r : Result (List ℕ) Found) → length rest ≤ length bytes → Within rest r → Within bytes r
longer_within bytes rest (Ok more) le h = (omega (arith, le, h.0), h.1)
longer_within bytes rest (Err f) le h = omega (arith, le, h)

followed_within : (bytes : List ℕ) (r : Result (List ℕ) Found) (walk : Walk) → Within bytes r → ((rest : List ℕ) → IsBytes rest → Within rest (walk rest)) → Within bytes (followed r walk)
followed_within bytes (Ok rest) walk h k = longer_within bytes rest (walk rest) h.0 (k rest h.1)
followed_within bytes (Err f) walk h k = h

pub finds_then : {a b : Walk} {p q : List ℕ → Result (List ℕ) ℕ} → Finds a p → Finds b q → Finds (a ▷ b) (λ bytes. p bytes >>= q)
finds_then {a} {b} {p} {q} first second = record {
  same = λ bytes. number_followed (a bytes) b q second.same ∙ ap (λ (r : Result (List ℕ) ℕ). r >>= q) (first.same bytes);
  within = λ bytes fits. followed_within bytes (a bytes) b (first.within bytes fits) second.within;
}

pub finds_nothing : Finds no_field (λ bytes. Ok bytes)
finds_nothing = record { same = λ bytes. refl; within = λ bytes fits. (omega arith, fits) }

-- ---- tags

-- a tag's own place keeps the number and how many bytes are left
pub record IsPlacing (in_tag : Found → Found) : Type 0 where
  pub fault : (f : Found) → (in_tag f).fault ≡ f.fault
  pub left : (f : Found) → (in_tag f).left ≡ f.left

pub places_in : (step : Step) → IsPlacing (enclosed_by step)
places_in step = record { fault = λ f. refl; left = λ f. refl }

pub places_in_both : (outer inner : Step) → IsPlacing (λ f. enclosed_by outer (enclosed_by inner f))
places_in_both outer inner = record { fault = λ f. refl; left = λ f. refl }

pub places_nowhere : IsPlacing in_no_field
places_nowhere = record { fault = λ f. refl; left = λ f. refl }

abbrev no_rest : ℕ → Result (List ℕ) ℕ
no_rest n = Err n

-- what stands behind each tag, else the fault
pub record Chooses {V : Type 0} (fault : ℕ) (cases : ℕ → Option Walk) (these : Cases V) : Type 0 where
  pub same : (t : ℕ) (unknown : Found) (rest : List ℕ) → unknown.fault ≡ fault → number_in (chosen unknown rest (cases t)) ≡ (these.body t).pass rest
  pub within : (t : ℕ) (unknown : Found) (bytes rest : List ℕ) → unknown.left ≤ length bytes → length rest ≤ length bytes → IsBytes rest → Within bytes (chosen unknown rest (cases t))

pub chooses_none : (fault : ℕ) → Chooses fault no_case (others fault)
chooses_none fault = record {
  same = λ t unknown rest e. ap (λ (n : ℕ). no_rest n) e;
  within = λ t unknown bytes rest le less fits. le;
}

this_same : {A B : Type 0} (b : Bool) (walk : Walk) (other : Option Walk) (a : Format A) (c : Format B) (unknown : Found) (rest : List ℕ) → Finds walk a.pass → number_in (chosen unknown rest other) ≡ c.pass rest
    → number_in (chosen unknown rest (if b then Some walk else other)) ≡ (cond b (left_format {B = B} a) (right_format {A = A} c)).pass rest
this_same true walk other a c unknown rest h k = h.same rest
this_same false walk other a c unknown rest h k = k

this_within : (b : Bool) (walk : Walk) (other : Option Walk) (unknown : Found) (bytes rest : List ℕ) → Within bytes (walk rest) → Within bytes (chosen unknown rest other) → Within bytes (chosen unknown rest (if b then Some walk else other))
this_within true walk other unknown bytes rest h k = h
this_within false walk other unknown bytes rest h k = k

pub chooses_case : {A B : Type 0} {walk : Walk} {cases : ℕ → Option Walk} {fault : ℕ} {c : Cases B} (k : ℕ) (a : Format A) → Finds walk a.pass → Chooses fault cases c → Chooses fault (case_of k walk cases) (case k a c)
chooses_case {A} {B} {walk} {cases} {fault} {c} k a h more = record {
  same = λ t unknown rest e. this_same (t == k) walk (cases t) a (c.body t) unknown rest h (more.same t unknown rest e);
  within = λ t unknown bytes rest le less fits.
      this_within (t == k) walk (cases t) unknown bytes rest (longer_within bytes rest (walk rest) less (h.within rest fits)) (more.within t unknown bytes rest le less fits);
}

number_by_tag : {V : Type 0} {cases : ℕ → Option Walk} {these : Cases V} (in_tag : Found → Found) (fault : ℕ) (bytes : List ℕ) (r : Result (ℕ × List ℕ) ℕ) → IsPlacing in_tag → Chooses fault cases these
    → number_in (by_tag in_tag fault cases bytes r) ≡ (r >>= body_past these.body)
number_by_tag in_tag fault bytes (Ok t) placing h = h.same t.0 (in_tag (at_front bytes fault)) t.1 (placing.fault (at_front bytes fault))
number_by_tag in_tag fault bytes (Err n) placing h = ap (λ (m : ℕ). no_rest m) (placing.fault (at_front bytes n))

by_tag_within : {V : Type 0} {cases : ℕ → Option Walk} {these : Cases V} (in_tag : Found → Found) (fault : ℕ) (bytes : List ℕ) (r : Result (ℕ × List ℕ) ℕ) → IsPlacing in_tag → Chooses fault cases these
    → ((t : ℕ × List ℕ) → r ≡ Ok t → (length t.1 ≤ length bytes) × IsBytes t.1) → Within bytes (by_tag in_tag fault cases bytes r)
by_tag_within in_tag fault bytes (Ok t) placing h tag =
    let read = tag t refl in
    h.within t.0 (in_tag (at_front bytes fault)) bytes t.1 (omega (arith, placing.left (at_front bytes fault))) read.0 read.1
by_tag_within in_tag fault bytes (Err n) placing h tag = omega (arith, placing.left (at_front bytes n))

uint_shorter : (w : Width) (limit : ℕ) (wide : IsWide w limit) (bytes : List ℕ) → IsBytes bytes → (t : ℕ × List ℕ) → uint_at w bytes ≡ Ok t → (length t.1 ≤ length bytes) × IsBytes t.1
uint_shorter w limit wide bytes fits t e = let read = (uint_lawful w limit wide).takes bytes t.0 t.1 fits e in (shorter bytes (uint w t.0) t.1 read.0, read.0.rest_fits)

pub finds_tagged : {V : Type 0} {cases : ℕ → Option Walk} {these : Cases V} {in_tag : Found → Found} {fault : ℕ} (w : Width) (limit : ℕ) → IsWide w limit → IsPlacing in_tag → Chooses fault cases these
    → Finds (λ bytes. by_tag in_tag fault cases bytes (uint_at w bytes)) (λ bytes. uint_at w bytes >>= body_past these.body)
finds_tagged {V} {cases} {these} {in_tag} {fault} w limit wide placing h = record {
  same = λ bytes. number_by_tag in_tag fault bytes (uint_at w bytes) placing h;
  within = λ bytes fits. by_tag_within in_tag fault bytes (uint_at w bytes) placing h (uint_shorter w limit wide bytes fits);
}

-- ---- what may be absent (RFC 9420, 2.1.1)

presence_same : {V : Type 0} {walk : Walk} (a : Format V) → Finds walk a.pass → (t : ℕ) (unknown : Found) (rest : List ℕ) → unknown.fault ≡ 7 → number_in (chosen unknown rest (presences walk t)) ≡ (optional_body a t).pass rest
presence_same a h zero unknown rest e = refl
presence_same a h (suc zero) unknown rest e = h.same rest
presence_same a h (suc (suc t)) unknown rest e = ap (λ (n : ℕ). no_rest n) e

presence_within : {V : Type 0} {walk : Walk} (a : Format V) → Finds walk a.pass → (t : ℕ) (unknown : Found) (bytes rest : List ℕ) → unknown.left ≤ length bytes → length rest ≤ length bytes → IsBytes rest → Within bytes (chosen unknown rest (presences walk t))
presence_within a h zero unknown bytes rest le less fits = (less, fits)
presence_within {V} {walk} a h (suc zero) unknown bytes rest le less fits = longer_within bytes rest (walk rest) less (h.within rest fits)
presence_within a h (suc (suc t)) unknown bytes rest le less fits = le

abbrev optional_cases : {V : Type 0} → Format V → Cases (Option V)
optional_cases a = record { tag_of = optional_tag_of; body = optional_body a; is_tag = is_optional_tag a }

chooses_optional : {V : Type 0} {walk : Walk} (a : Format V) → Finds walk a.pass → Chooses 7 (presences walk) (optional_cases a)
chooses_optional a h = record { same = presence_same a h; within = presence_within a h }

pub finds_optional : {V : Type 0} {walk : Walk} (a : Format V) → Finds walk a.pass → Finds (optional_of walk) (optional a).pass
finds_optional a h = finds_tagged w8 (2 ^ 8) wide8 places_nowhere (chooses_optional a h)

-- ---- vectors (RFC 9420, 2.1.2)

-- all of the bytes are read past, or a fault is at one of them or behind the last
abbrev pub AllWithin : List ℕ → Result (Unit {0}) Found → Type 0
AllWithin bytes (Ok _) = Unit {0}
AllWithin bytes (Err f) = f.left ≤ length bytes

pub record FindsAll (walk : List ℕ → Result (Unit {0}) Found) (pass : List ℕ → Result (Unit {0}) ℕ) : Type 0 where
  pub same : (bytes : List ℕ) → number_in (walk bytes) ≡ pass bytes
  pub within : (bytes : List ℕ) → IsBytes bytes → AllWithin bytes (walk bytes)

longer_all : (bytes rest : List ℕ) (r : Result (Unit {0}) Found) → length rest ≤ length bytes → AllWithin rest r → AllWithin bytes r
longer_all bytes rest (Ok u) le h = tt
longer_all bytes rest (Err f) le h = omega (arith, le, h)

pub all_followed : (bytes : List ℕ) (r : Result (List ℕ) Found) (walk : List ℕ → Result (Unit {0}) Found) → Within bytes r → ((rest : List ℕ) → IsBytes rest → AllWithin rest (walk rest)) → AllWithin bytes (followed r walk)
all_followed bytes (Ok rest) walk h k = longer_all bytes rest (walk rest) h.0 (k rest h.1)
all_followed bytes (Err f) walk h k = h

number_before : (rest : List ℕ) (r : Result (Unit {0}) Found) → number_in (content_before rest r) ≡ (number_in r >>= λ _. Ok rest)
number_before rest (Ok u) = refl
number_before rest (Err f) = refl

enclosed_same : (all : List ℕ → Result (Unit {0}) Found) (pass : List ℕ → Result (Unit {0}) ℕ) (bytes : List ℕ) (r : Result (List ℕ × List ℕ) ℕ) → ((content : List ℕ) → number_in (all content) ≡ pass content)
    → number_in (followed (located bytes r) (λ x. content_before x.1 (all x.0))) ≡ (r >>= λ x. pass x.0 >>= λ _. Ok x.1)
enclosed_same all pass bytes (Ok x) h = number_before x.1 (all x.0) ∙ ap (λ (r : Result (Unit {0}) ℕ). r >>= λ _. Ok x.1) (h x.0)
enclosed_same all pass bytes (Err n) h = refl

-- a content and what is behind it are shorter than all of the bytes
pub content_shorter : (bytes content rest : List ℕ) → IsBytes bytes → opaque_at bytes ≡ Ok (content, rest) → length content + length rest ≤ length bytes
content_shorter bytes content rest fits e =
    let t = opaque_takes bytes content rest fits e in
    let len : length bytes ≡ length (opaque content ++ rest) = ap length t.0.parts in
    omega (arith, len, length-append (opaque content) rest, length-append (header (length content)) content)

before_within : (bytes content rest : List ℕ) (r : Result (Unit {0}) Found) → length content + length rest ≤ length bytes → IsBytes rest → AllWithin content r → Within bytes (content_before rest r)
before_within bytes content rest (Ok u) le fits h = (omega (arith, le), fits)
before_within bytes content rest (Err f) le fits h = omega (arith, le, h)

enclosed_within : (all : List ℕ → Result (Unit {0}) Found) (bytes : List ℕ) (r : Result (List ℕ × List ℕ) ℕ) → IsBytes bytes → r ≡ opaque_at bytes → ((content : List ℕ) → IsBytes content → AllWithin content (all content))
    → Within bytes (followed (located bytes r) (λ x. content_before x.1 (all x.0)))
enclosed_within all bytes (Ok x) fits e h =
    before_within bytes x.0 x.1 (all x.0) (content_shorter bytes x.0 x.1 fits (sym e)) ((opaque_takes bytes x.0 x.1 fits (sym e)).0.rest_fits) (h x.0 (opaque_bytes bytes x.0 x.1 fits (sym e)))
enclosed_within all bytes (Err n) fits e h = omega arith

pub finds_enclosed : {all : List ℕ → Result (Unit {0}) Found} {pass : List ℕ → Result (Unit {0}) ℕ} → FindsAll all pass → Finds (enclosed all) (λ bytes. opaque_at bytes >>= λ x. pass x.0 >>= λ _. Ok x.1)
finds_enclosed {all} {pass} h = record {
  same = λ bytes. enclosed_same all pass bytes (opaque_at bytes) h.same;
  within = λ bytes fits. enclosed_within all bytes (opaque_at bytes) fits refl h.within;
}

items_same : {walk : Walk} {pass : List ℕ → Result (List ℕ) ℕ} → Finds walk pass → (i fuel : ℕ) (bytes : List ℕ) → number_in (items walk i fuel bytes) ≡ items_past pass fuel bytes
items_same h i fuel [] = refl
items_same h i zero (b ∷ bytes) = refl
items_same {walk} {pass} h i (suc fuel) (b ∷ bytes) =
    number_followed (inside (Item i) (walk (b ∷ bytes))) (items walk (i + 1) fuel) (items_past pass fuel) (items_same h (i + 1) fuel)
    ∙ ap (λ (r : Result (List ℕ) ℕ). r >>= items_past pass fuel) (number_inside (Item i) (walk (b ∷ bytes)) ∙ h.same (b ∷ bytes))

items_within : {walk : Walk} {pass : List ℕ → Result (List ℕ) ℕ} → Finds walk pass → (i fuel : ℕ) (bytes : List ℕ) → IsBytes bytes → AllWithin bytes (items walk i fuel bytes)
items_within h i fuel [] fits = tt
items_within h i zero (b ∷ bytes) fits = omega arith
items_within {walk} {pass} h i (suc fuel) (b ∷ bytes) fits =
    all_followed (b ∷ bytes) (inside (Item i) (walk (b ∷ bytes))) (items walk (i + 1) fuel) (inside_within (Item i) (b ∷ bytes) (walk (b ∷ bytes)) (h.within (b ∷ bytes) fits)) (λ rest more. items_within h (i + 1) fuel rest more)

pub finds_items : {walk : Walk} {pass : List ℕ → Result (List ℕ) ℕ} → Finds walk pass → FindsAll (all_items walk) (λ bytes. items_past pass (length bytes) bytes)
finds_items h = record {
  same = λ bytes. items_same h 0 (length bytes) bytes;
  within = λ bytes fits. items_within h 0 (length bytes) bytes fits;
}

pub finds_vector : {V : Type 0} {walk : Walk} (a : Format V) (nonempty : IsNonempty a) → Finds walk a.pass → Finds (vector_of walk) (vector a nonempty).pass
finds_vector a nonempty h = finds_enclosed (finds_items h)
