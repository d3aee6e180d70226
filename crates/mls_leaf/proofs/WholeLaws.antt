-- The two laws of whole inputs.
use Rattle.std.proofs.Common.{◌≡◌, ℕ, ◌≤◌, Bool, true, false, cond, ltb, List, [], ◌++◌, length, Result, Ok, Err, refl, sym, ap, subst, ◌∙◌}
use Rattle.std.specs.Prelude.{IfOk}
use Rattle.std.proofs.lemmas.Bool.{le-ltb}
use Rattle.std.proofs.lemmas.List.{append-nil}
use Rattle.mls_wire.specs.Reading.{◌>>=◌, rest_of}
use Rattle.mls_wire.specs.Format.{Format, IsBytes}
use Rattle.mls_wire.specs.Laws.{ok_is}
use Rattle.mls_wire.specs.CombineLaws.{good, entire_takes, entire_passes}
use Rattle.mls_leaf.specs.declared.error.LeafError.{LeafError}
use Rattle.mls_wire.specs.ReadFaults.{is_fault, HasFaults, Answered, answered_then, ended_answered}
use Rattle.mls_wire.specs.declared.WireError.TheVariants as wire
use Rattle.mls_wire.specs.CombineReads.{without_value, require_end, ended_past}
use Rattle.mls_wire.specs.Whole.{whole}
use Rattle.mls_leaf.specs.declared.error.LeafError.TheVariants.{Wire, BadTag, UnsupportedCredential, UnsupportedProposal, NotRising, ExtensionNotAllowed}
use Rattle.mls_leaf.specs.Faults.{Fails, Outright, Gives, Spells, Tells, ReadsAllPast, number_of, input_past}
use Rattle.mls_leaf.specs.WholeLaws.{is_input_fault}

-- a test that went one way
guard_first : {A : Type 0} (b : Bool) (d : ℕ) (r : Result A ℕ) (y : A) → cond b (Err d) r ≡ Ok y → r ≡ Ok y
guard_first true d r y e = absurd cc
guard_first false d r y e = e

pub whole_takes : {V : Type 0} (format : Format V) (limit : ℕ) (bytes : List ℕ) (v : V) → IsBytes bytes → whole format limit bytes ≡ Ok v → Spells format v bytes
unfolding whole
whole_takes format limit bytes v fits e =
    let t = entire_takes format bytes v fits (guard_first (ltb limit (length bytes)) 6 (format.read bytes >>= require_end) v e) in
    record { fits = t.1; spelled = t.0 }

pub whole_again : {V : Type 0} (format : Format V) (limit : ℕ) (bytes : List ℕ) (v : V) → Spells format v bytes → length bytes ≤ limit → whole format limit bytes ≡ Ok v
unfolding whole
whole_again format limit bytes v spells le =
    let within : ltb limit (length bytes) ≡ false = le-ltb _ _ le in
    let read : format.read bytes ≡ Ok (v, []) = ap format.read (spells.spelled ∙ sym (append-nil (format.spell v))) ∙ format.lawful.again v [] spells.fits in
    rw (within, read) refl

pub is_found : {V : Type 0} (format : Format V) (limit : ℕ) (bytes : List ℕ) (r : Result V LeafError) → IsBytes bytes → Gives (λ (x : V). x) r (whole format limit bytes) → IfOk r (λ v. Spells format v bytes)
is_found format limit bytes (Ok v) fits given = whole_takes format limit bytes v fits given
is_found format limit bytes (Err e) fits given = tt

-- ---- reading past all

abbrev limited : {V : Type 0} → Bool → Result V ℕ → Result V ℕ
limited b r = cond b (Err 6) r

limited_kept : {V : Type 0} (b : Bool) (p : Result (Unit {0}) ℕ) (r : Result V ℕ) → p ≡ without_value r → limited b p ≡ without_value (limited b r)
limited_kept true p r e = refl
limited_kept false p r e = e

whole_kept : {V : Type 0} (format : Format V) (limit : ℕ) (bytes : List ℕ) → input_past format.pass limit bytes ≡ without_value (whole format limit bytes)
unfolding whole input_past
whole_kept format limit bytes =
    limited_kept (ltb limit (length bytes)) (format.pass bytes >>= ended_past) (format.read bytes >>= require_end) (entire_passes format bytes)

abbrev refusal : {V : Type 0} → ℕ → Result V ℕ
refusal n = Err n

fault_is : (f g : ℕ) → refusal {V = Unit {0}} f ≡ refusal {V = Unit {0}} g → f ≡ g
fault_is f g e = cc

tells_kept : {V : Type 0} (r : Result V ℕ) (answer : Result (Unit {0}) LeafError) → ReadsAllPast (without_value r) answer → Tells r answer
tells_kept (Ok v) (Ok _) h = (v, refl)
tells_kept (Ok v) (Err e) h = absurd cc
tells_kept (Err f) (Ok _) h = absurd cc
tells_kept {V} (Err f) (Err e) h = ap (λ (n : ℕ). refusal {V = V} n) (fault_is f (number_of e) h)

pub whole_told : {V : Type 0} (format : Format V) (limit : ℕ) (bytes : List ℕ) (answer : Result (Unit {0}) LeafError) → ReadsAllPast (input_past format.pass limit bytes) answer → Tells (whole format limit bytes) answer
whole_told format limit bytes answer h = tells_kept (whole format limit bytes) answer (subst (λ (r : Result (Unit {0}) ℕ). ReadsAllPast r answer) (whole_kept format limit bytes) h)

-- ---- what was read past was read

pub past_ok : {A : Type 0} (r : Result (A × List ℕ) ℕ) (rest : List ℕ) → rest_of r ≡ Ok rest → (v : A) × (r ≡ Ok (v, rest))
past_ok {A} (Ok x) rest e = (x.0, ap (λ (l : List ℕ). good x.0 l) (ok_is x.1 rest e))
past_ok (Err f) rest e = absurd cc

abbrev pub InputAnswered : {V : Type 0} → Result V ℕ → Type 0
InputAnswered (Ok v) = Unit {0}
InputAnswered (Err n) = is_input_fault n ≡ true

of_reading : {V : Type 0} (r : Result V ℕ) → Answered r → InputAnswered r
of_reading (Ok v) h = tt
of_reading (Err n) h = rw h refl

limited_answered : {V : Type 0} (b : Bool) (r : Result V ℕ) → Answered r → InputAnswered (limited b r)
limited_answered true r h = refl
limited_answered false r h = of_reading r h

pub whole_answered : {V : Type 0} (format : Format V) (limit : ℕ) (bytes : List ℕ) → HasFaults format → InputAnswered (whole format limit bytes)
unfolding whole
whole_answered format limit bytes h = limited_answered (ltb limit (length bytes)) (format.read bytes >>= require_end) (answered_then (format.read bytes) require_end (h.answers bytes) ended_answered)

-- a number that is read is one of them
pub is_answered : {V : Type 0} (format : Format V) → HasFaults format → (bytes : List ℕ) (n : ℕ) → format.read bytes ≡ Err n → is_fault n ≡ true
is_answered {V} format h bytes n e = subst (λ (r : Result (V × List ℕ) ℕ). Answered r) e (h.answers bytes)

pub is_input_answered : {V : Type 0} (format : Format V) (limit : ℕ) → HasFaults format → (bytes : List ℕ) (n : ℕ) → whole format limit bytes ≡ Err n → is_input_fault n ≡ true
is_input_answered {V} format limit h bytes n e = subst (λ (r : Result V ℕ). InputAnswered r) e (whole_answered format limit bytes h)

-- ---- faults first, and then want of memory

never_memory : {V : Type 0} (r : Result V ℕ) → InputAnswered r → r ≡ Err 1 → ⊥
never_memory (Ok v) h e = cc
never_memory {V} (Err n) h e = let one : n ≡ 1 = fault_is n 1 (ap without_value e) in let no : is_input_fault 1 ≡ true = subst (λ (k : ℕ). is_input_fault k ≡ true) one h in cc

-- an error that is a fault is no want of memory
pub told_outright : {V : Type 0} (e : LeafError) (r : Result V ℕ) → InputAnswered r → r ≡ Err (number_of e) → Outright r e
told_outright (Wire wire.OutOfMemory) r answered h = absurd (never_memory r answered h)
told_outright (Wire wire.Truncated) r answered h = tt
told_outright (Wire wire.Trailing) r answered h = tt
told_outright (Wire wire.BadLength) r answered h = tt
told_outright (Wire wire.NotMinimal) r answered h = tt
told_outright (Wire wire.TooLong) r answered h = tt
told_outright BadTag r answered h = tt
told_outright UnsupportedCredential r answered h = tt
told_outright UnsupportedProposal r answered h = tt
told_outright NotRising r answered h = tt
told_outright ExtensionNotAllowed r answered h = tt

-- ---- bytes that are one spelling

-- a spelling is read past to its end
pub spelling_passes : {V : Type 0} (format : Format V) (v : V) → format.Fits v → format.pass (format.spell v) ≡ Ok []
spelling_passes {V} format v fits =
    let read : format.read (format.spell v) ≡ Ok (v, []) = ap format.read (sym (append-nil (format.spell v))) ∙ format.lawful.again v [] fits in
    format.passes (format.spell v) ∙ ap (λ (r : Result (V × List ℕ) ℕ). rest_of r) read

-- what is read past to its end is a spelling
pub passed_spells : {V : Type 0} (format : Format V) (bytes : List ℕ) → IsBytes bytes → format.pass bytes ≡ Ok [] → (v : V) × Spells format v bytes
passed_spells format bytes fits e =
    let v = past_ok (format.read bytes) [] (sym (format.passes bytes) ∙ e) in
    let t = format.lawful.takes bytes v.0 [] fits v.1 in
    (v.0, record { fits = t.1; spelled = t.0.parts ∙ append-nil (format.spell v.0) })

-- bytes spell one value
pub spells_same : {V : Type 0} (format : Format V) (v w : V) (bytes : List ℕ) → Spells format v bytes → Spells format w bytes → v ≡ w
spells_same {V} format v w bytes one other =
    let same : format.spell v ≡ format.spell w = sym one.spelled ∙ other.spelled in
    let first : format.read (format.spell v ++ []) ≡ Ok (v, []) = format.lawful.again v [] one.fits in
    let second : format.read (format.spell w ++ []) ≡ Ok (w, []) = format.lawful.again w [] other.fits in
    ap (λ (x : V × List ℕ). x.0) (ok_is (v, []) (w, []) (sym first ∙ ap (λ (l : List ℕ). format.read (l ++ [])) same ∙ second))

-- where there is a value, the error is want of memory
pub value_fails : {V : Type 0} (e : LeafError) (r : Result V ℕ) (v : V) → r ≡ Ok v → Fails e r → e ≡ Wire wire.OutOfMemory
value_fails (Wire wire.OutOfMemory) r v h f = refl
value_fails (Wire wire.Truncated) r v h f = absurd cc
value_fails (Wire wire.Trailing) r v h f = absurd cc
value_fails (Wire wire.BadLength) r v h f = absurd cc
value_fails (Wire wire.NotMinimal) r v h f = absurd cc
value_fails (Wire wire.TooLong) r v h f = absurd cc
value_fails BadTag r v h f = absurd cc
value_fails UnsupportedCredential r v h f = absurd cc
value_fails UnsupportedProposal r v h f = absurd cc
value_fails NotRising r v h f = absurd cc
value_fails ExtensionNotAllowed r v h f = absurd cc
