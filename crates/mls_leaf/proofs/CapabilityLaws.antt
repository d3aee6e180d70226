-- Capabilities and the bytes that spell them.
use Rattle.std.proofs.Common.{◌≡◌, ℕ, ◌==◌, ◌<◌, Bool, true, false, ◌||◌, List, [], ◌∷◌, ◌++◌, length, drop, Result, Ok, Err, refl, sym, ap, subst, ◌∙◌, arith}
use Rattle.std.specs.Int.{w16, from_be_bytes}
use Rattle.std.specs.List.{flat_map}
use Rattle.std.specs.Prelude.{nat_eq, nat_lt, take}
use Rattle.std.specs.Cmp.Lexicographic.{pointwise}
use Rattle.std.proofs.lemmas.Bool.{eq-eqb, ltb-false, ne_eqb}
use Rattle.std.proofs.lemmas.Bool.Decides.{same_from_decides}
use Rattle.std.proofs.lemmas.List.{append-nil, length-drop}
use Rattle.std.proofs.lemmas.Slice.Eq.{bytes_eq-Decides}
use Rattle.mls_wire.specs.Reading.{opaque_at, uint_at}
use Rattle.mls_wire.specs.Combine.{byte_string, uint16}
use Rattle.mls_wire.specs.CombineLaws.{good}
use Rattle.mls_wire.specs.Laws.{guard_ok, ok_is}
use Rattle.mls_leaf.specs.Capabilities.{SpellNumbers, capabilities_in, is_listed, lists_or_none}
use Rattle.mls_leaf.specs.Faults.{IsPart, Spells}
use Rattle.mls_leaf.specs.Leaf.{capabilities, uint16s}
use Rattle.mls_leaf.specs.declared.leaf.Capabilities.{Capabilities}
use Rattle.mls_leaf.specs.contracts.leaf.CapabilitiesPartialEq.TheImpl as capables
use Rattle.mls_leaf.proofs.EqualLaws.{capabilities_decide, decides_as}

-- ---- what the bytes spell

pub spelled_in : (v : Capabilities) (bytes : List ℕ) → Spells capabilities v bytes → capabilities_in bytes ≡ v
unfolding capabilities_in
spelled_in v bytes s =
    let read : capabilities.read bytes ≡ Ok (v, []) = ap capabilities.read (s.spelled ∙ sym (append-nil (capabilities.spell v))) ∙ capabilities.lawful.again v [] s.fits in
    ap (λ (r : Result (Capabilities × List ℕ) ℕ). lists_or_none r) read

pub read_in : (v : Capabilities) (bytes rest : List ℕ) → capabilities.read bytes ≡ Ok (v, rest) → v ≡ capabilities_in bytes
unfolding capabilities_in
read_in v bytes rest e = sym (ap (λ (r : Result (Capabilities × List ℕ) ℕ). lists_or_none r) e)

-- a copy of what spells lists
pub copy_spells : (v : Capabilities) (bytes copy : List ℕ) → copy ≡ bytes → Spells capabilities v bytes → Spells capabilities (capabilities_in copy) copy
copy_spells v bytes copy e s =
    let here : Spells capabilities v copy = record { fits = s.fits; spelled = e ∙ s.spelled } in
    subst (λ (w : Capabilities). Spells capabilities w copy) (sym (spelled_in v copy here)) here

pub copy_is : (v : Capabilities) (bytes copy : List ℕ) → copy ≡ bytes → Spells capabilities v bytes → capabilities_in copy ≡ v
copy_is v bytes copy e s = ap capabilities_in e ∙ spelled_in v bytes s

-- a copy of what stands at the front
pub part_read : (old text new copy : List ℕ) → copy ≡ text → IsPart capabilities old text new → capabilities.read old ≡ Ok (capabilities_in copy, new)
part_read old text new copy e p = p.is_read ∙ ap (λ (v : Capabilities). good v new) (sym (copy_is p.value text copy e p.spells))

-- the bytes of a value
pub spelling_fits : (bytes : List ℕ) (v : Capabilities) → capabilities_in bytes ≡ v → Spells capabilities (capabilities_in bytes) bytes → capabilities.Fits v
spelling_fits bytes v is s = subst (λ (w : Capabilities). capabilities.Fits w) is s.fits

pub spelling_is : (bytes : List ℕ) (v : Capabilities) → capabilities_in bytes ≡ v → Spells capabilities (capabilities_in bytes) bytes → bytes ≡ capabilities.spell v
spelling_is bytes v is s = s.spelled ∙ ap capabilities.spell is

-- ---- whether they are the same

pub same_spelled : (a b : List ℕ) (v w : Capabilities) → capabilities_in a ≡ v → capabilities_in b ≡ w → Spells capabilities (capabilities_in a) a → Spells capabilities (capabilities_in b) b → pointwise nat_eq a b ≡ (capables.ghosts).eq v w
same_spelled a b v w is-v is-w s t =
    same_from_decides _ _
    (decides_as {P = a ≡ b} {Q = v ≡ w} (λ e. sym is-v ∙ ap capabilities_in e ∙ is-w) (λ e. s.spelled ∙ ap capabilities.spell (is-v ∙ e ∙ sym is-w) ∙ sym t.spelled) (bytes_eq-Decides a b))
    (capabilities_decide v w)

-- ---- one list after the other

-- the bytes are these lists of numbers, one after the other
abbrev pub SpellLists : List (List ℕ) → List ℕ → Type 0
SpellLists [] bytes = bytes ≡ []
SpellLists (xs ∷ more) bytes = uint16s.Fits xs × ((rest : List ℕ) × (bytes ≡ uint16s.spell xs ++ rest) × SpellLists more rest)

-- the lists from one of them on
abbrev pub from_credentials : Capabilities → List (List ℕ)
from_credentials v = v.credentials ∷ []

abbrev pub from_proposals : Capabilities → List (List ℕ)
from_proposals v = v.proposals ∷ from_credentials v

abbrev pub from_extensions : Capabilities → List (List ℕ)
from_extensions v = v.extensions ∷ from_proposals v

abbrev pub from_suites : Capabilities → List (List ℕ)
from_suites v = v.cipher_suites ∷ from_extensions v

abbrev pub from_versions : Capabilities → List (List ℕ)
from_versions v = v.versions ∷ from_suites v

pub all_lists : (v : Capabilities) (bytes : List ℕ) → Spells capabilities v bytes → SpellLists (from_versions v) bytes
unfolding capabilities
all_lists v bytes s =
    let f = s.fits in
    let fourth : List ℕ = uint16s.spell v.credentials in
    let third : List ℕ = uint16s.spell v.proposals ++ fourth in
    let second : List ℕ = uint16s.spell v.extensions ++ third in
    let first : List ℕ = uint16s.spell v.cipher_suites ++ second in
    (f.0, (first, s.spelled, (f.1.0, (second, refl, (f.1.1.0, (third, refl, (f.1.1.1.0, (fourth, refl, (f.1.1.1.1, ([], sym (append-nil fourth), refl))))))))))

-- the first of them
pub first_list : (xs : List ℕ) (more : List (List ℕ)) (old content new : List ℕ) → SpellLists (xs ∷ more) old → opaque_at old ≡ Ok (content, new) → SpellNumbers xs content × SpellLists more new
first_list xs more old content new s e =
    let again : opaque_at old ≡ Ok (flat_map uint16.spell xs, s.1.0) = ap opaque_at s.1.1 ∙ byte_string.lawful.again (flat_map uint16.spell xs) s.1.0 s.0.1 in
    let same : (flat_map uint16.spell xs, s.1.0) ≡ (content, new) = ok_is (flat_map uint16.spell xs, s.1.0) (content, new) (sym again ∙ e) in
    let text : flat_map uint16.spell xs ≡ content = ap (λ (p : List ℕ × List ℕ). p.0) same in
    let rest : s.1.0 ≡ new = ap (λ (p : List ℕ × List ℕ). p.1) same in
    (record { fit = s.0.0; spelled = sym text }, subst (λ (l : List ℕ). SpellLists more l) rest s.1.2)

-- it is there
pub list_there : (xs : List ℕ) (more : List (List ℕ)) (old : List ℕ) (f : ℕ) → SpellLists (xs ∷ more) old → opaque_at old ≡ Err f → ⊥
list_there xs more old f s e =
    let again : opaque_at old ≡ Ok (flat_map uint16.spell xs, s.1.0) = ap opaque_at s.1.1 ∙ byte_string.lawful.again (flat_map uint16.spell xs) s.1.0 s.0.1 in
    let no : good (flat_map uint16.spell xs) s.1.0 ≡ Err f = sym again ∙ e in
    cc

-- ---- a number in a list

-- a number takes two bytes
pub number_shorter : (old new : List ℕ) (n : ℕ) → uint_at w16 old ≡ Ok (n, new) → length new < length old
unfolding uint_at
number_shorter old new n e =
    let g = guard_ok (nat_lt (length old) 2) 2 (from_be_bytes w16 (take 2 old), drop 2 old) (n, new) e in
    let long = ltb-false _ _ g.0 in
    let rest : drop 2 old ≡ new = ap (λ (p : ℕ × List ℕ). p.1) g.1 in
    omega (arith, long, ap length rest, length-drop 2 old)

-- what is left are numbers, and the number is one of them where it is one of all
abbrev pub IsLeft : List ℕ → ℕ → List ℕ → Type 0
IsLeft all number bytes = (left : List ℕ) × SpellNumbers left bytes × (is_listed all number ≡ is_listed left number)

pub all_left : (all : List ℕ) (number : ℕ) (bytes : List ℕ) → SpellNumbers all bytes → IsLeft all number bytes
all_left all number bytes s = (all, s, refl)

abbrev refused : ℕ → Result (ℕ × List ℕ) ℕ
refused f = Err f

nothing_read : (n : ℕ) (new : List ℕ) → uint_at w16 [] ≡ Ok (n, new) → ⊥
unfolding uint_at
nothing_read n new e = let no : refused 2 ≡ good n new = e in cc

-- the number that is read is the first that is left
next_number : (left old new : List ℕ) (n : ℕ) → SpellNumbers left old → uint_at w16 old ≡ Ok (n, new) → (more : List ℕ) × (left ≡ n ∷ more) × SpellNumbers more new
next_number [] old new n s e = absurd (nothing_read n new (sym (ap (uint_at w16) s.spelled) ∙ e))
next_number (x ∷ xs) old new n s e =
    let rest : List ℕ = flat_map uint16.spell xs in
    let again : uint_at w16 old ≡ Ok (x, rest) = ap (uint_at w16) s.spelled ∙ uint16.lawful.again x rest s.fit.0 in
    let same : (x, rest) ≡ (n, new) = ok_is (x, rest) (n, new) (sym again ∙ e) in
    (xs, ap (λ (p : ℕ × List ℕ). p.0 ∷ xs) same, record { fit = s.fit.1; spelled = sym (ap (λ (p : ℕ × List ℕ). p.1) same) })

pub found_number : (all : List ℕ) (number : ℕ) (old new : List ℕ) (n : ℕ) → IsLeft all number old → uint_at w16 old ≡ Ok (n, new) → n ≡ number → true ≡ is_listed all number
found_number all number old new n l e is =
    let next = next_number l.0 old new n l.1 e in
    let yes : (n == number) ≡ true = eq-eqb n number is in
    sym (l.2 ∙ ap (λ (xs : List ℕ). is_listed xs number) next.1 ∙ ap (λ (b : Bool). b || is_listed next.0 number) yes)

pub other_number : (all : List ℕ) (number : ℕ) (old new : List ℕ) (n : ℕ) → IsLeft all number old → uint_at w16 old ≡ Ok (n, new) → (n ≡ number → ⊥) → IsLeft all number new
other_number all number old new n l e ne =
    let next = next_number l.0 old new n l.1 e in
    let no : (n == number) ≡ false = ne_eqb n number ne in
    (next.0, next.2, l.2 ∙ ap (λ (xs : List ℕ). is_listed xs number) next.1 ∙ ap (λ (b : Bool). b || is_listed next.0 number) no)

pub no_number : (all : List ℕ) (number : ℕ) (old : List ℕ) (f : ℕ) → IsLeft all number old → uint_at w16 old ≡ Err f → false ≡ is_listed all number
no_number all number old f l e = sym (l.2 ∙ none_left l.0 old l.1 e)
  where
    none_left : (left old : List ℕ) → SpellNumbers left old → uint_at w16 old ≡ Err f → is_listed left number ≡ false
    none_left [] old s e = refl
    none_left (x ∷ xs) old s e =
        let again : uint_at w16 old ≡ Ok (x, flat_map uint16.spell xs) = ap (uint_at w16) s.spelled ∙ uint16.lawful.again x (flat_map uint16.spell xs) s.fit.0 in
        let no : good x (flat_map uint16.spell xs) ≡ Err f = sym again ∙ e in
        absurd cc
