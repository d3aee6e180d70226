-- Journals behind each other.
use Rattle.std.proofs.Common.{◌≡◌, ℕ, zero, suc, ◌+◌, ◌<◌, get_or, List, [], ◌∷◌, ◌++◌, length, refl, sym, ap, subst, ◌∙◌, arith}
use Rattle.std.proofs.lemmas.List.{length-append, get_or_append_left}
use Rattle.std.proofs.Math.Seq.{get_or-append_seam}
use Rattle.mls_model.specs.declared.origin.Origin.TheVariants as from
use Rattle.mls_model.specs.Journal.{Entry, Journal, new_journal, with_entry}
use Rattle.mls_world_plain.specs.declared.entry.JournalStep.{JournalStep}
use Rattle.mls_world_plain.specs.StoredWorld.{journal_at, journal_before}
use Rattle.mls_world_plain.specs.declared.entry.JournalStep.TheVariants.{Begun, Followed}
use Rattle.mls_world_plain.specs.JournalSteps.{journal_of, journals_of, GoesBack, GoBack, HasStep}

behind : (js : List Journal) (ss : List JournalStep) (s : JournalStep) → journals_of js (ss ++ s ∷ []) ≡ journals_of js ss ++ journal_of (journals_of js ss) s ∷ []
unfolding journals_of
behind js [] s = refl
behind js (x ∷ ss) s = behind (js ++ journal_of js x ∷ []) ss s

many : (js : List Journal) (ss : List JournalStep) → length (journals_of js ss) ≡ length js + length ss
unfolding journals_of
many js [] = omega arith
many js (x ∷ ss) =
    let e : length (journals_of (js ++ journal_of js x ∷ []) ss) ≡ length (js ++ journal_of js x ∷ []) + length ss = many (js ++ journal_of js x ∷ []) ss in
    let d : length (js ++ journal_of js x ∷ []) ≡ length js + 1 = length-append js (journal_of js x ∷ []) in
    omega arith

pub one_more : (ss : List JournalStep) (s : JournalStep) → journals_of [] (ss ++ s ∷ []) ≡ journals_of [] ss ++ journal_of (journals_of [] ss) s ∷ []
one_more ss s = behind [] ss s

pub as_many : (ss : List JournalStep) → length (journals_of [] ss) ≡ length ss
as_many ss = let e : length (journals_of [] ss) ≡ length {A = Journal} [] + length ss = many [] ss in omega (arith, e)

pub journal_stays : (js more : List Journal) (n : ℕ) → n < length js → journal_at (js ++ more) n ≡ journal_at js n
unfolding journal_at
journal_stays js more n lt = get_or_append_left js more (new_journal (from.Creation 0)) n lt

pub journal_seam : (js : List Journal) (j : Journal) → journal_at (js ++ j ∷ []) (length js) ≡ j
unfolding journal_at
journal_seam js j = get_or-append_seam js j [] (new_journal (from.Creation 0))

-- ---- each goes on from one before it

pub goes_none : GoBack 0 []
unfolding GoBack
goes_none = tt

pub goes_more : (n : ℕ) (ss : List JournalStep) (s : JournalStep) → GoBack n ss → GoesBack (n + length ss) s → GoBack n (ss ++ s ∷ [])
unfolding GoBack
goes_more n [] s go back = let e : n + 0 ≡ n = omega arith in (subst (λ (k : ℕ). GoesBack k s) e back, tt)
goes_more n (x ∷ ss) s go back =
    let e : n + suc (length ss) ≡ suc n + length ss = omega arith in
    (go.0, goes_more (suc n) ss s go.1 (subst (λ (k : ℕ). GoesBack k s) e back))

-- a journal that stands there stays as others come
stays : (js : List Journal) (ss : List JournalStep) (n : ℕ) → n < length js → journal_at (journals_of js ss) n ≡ journal_at js n
unfolding journals_of
stays js [] n lt = refl
stays js (s ∷ ss) n lt =
    let g : n < length (js ++ journal_of js s ∷ []) = omega (arith, length-append js (journal_of js s ∷ [])) in
    stays (js ++ journal_of js s ∷ []) ss n g ∙ journal_stays js (journal_of js s ∷ []) n lt

-- and so does that of a step
step_stays : (js : List Journal) (ss : List JournalStep) (s : JournalStep) → GoesBack (length js) s → journal_of (journals_of js ss) s ≡ journal_of js s
step_stays js ss (Begun origin) back = refl
step_stays js ss (Followed b entry) back = ap (λ (j : Journal). with_entry j entry) (stays js ss b back)

first_step : (js : List Journal) (ss : List JournalStep) (s : JournalStep) → GoesBack (length js) s → HasStep (journals_of js (s ∷ ss)) (length js) s
unfolding journals_of
first_step js ss s back =
    let more : List Journal = js ++ journal_of js s ∷ [] in
    let lt : length js < length more = omega (arith, length-append js (journal_of js s ∷ [])) in
    let whole : journals_of js (s ∷ ss) ≡ journals_of more ss = refl in
    record { is = stays more ss (length js) lt ∙ journal_seam js (journal_of js s) ∙ sym (step_stays js (s ∷ ss) s back); back = back }

steps_from : (js : List Journal) (ss : List JournalStep) (k : ℕ) (s : JournalStep) → GoBack (length js) ss → k < length ss → s ≡ get_or ss k s → HasStep (journals_of js ss) (length js + k) s
unfolding journals_of GoBack
steps_from js [] k s go lt e = absurd (omega arith)
steps_from js (x ∷ ss) zero s go lt e =
    let n : length js ≡ length js + 0 = omega arith in
    subst (λ (m : ℕ). HasStep (journals_of js (x ∷ ss)) m s) n (subst (λ (y : JournalStep). HasStep (journals_of js (x ∷ ss)) (length js) y) (sym e) (first_step js ss x go.0))
steps_from js (x ∷ ss) (suc k) s go lt e =
    let more : List Journal = js ++ journal_of js x ∷ [] in
    let len : length more ≡ suc (length js) = omega (arith, length-append js (journal_of js x ∷ [])) in
    let n : length more + k ≡ length js + suc k = omega (arith, len) in
    let r : HasStep (journals_of more ss) (length more + k) s = steps_from more ss k s (subst (λ (m : ℕ). GoBack m ss) (sym len) go.1) (omega arith) e in
    subst (λ (m : ℕ). HasStep (journals_of js (x ∷ ss)) m s) n r

-- what a list of steps stands for, step by step
pub step_at : (ss : List JournalStep) (n : ℕ) (s : JournalStep) → GoBack 0 ss → n < length ss → s ≡ get_or ss n s → HasStep (journals_of [] ss) n s
step_at ss n s go lt e =
    let z : 0 + n ≡ n = omega arith in
    subst (λ (m : ℕ). HasStep (journals_of [] ss) m s) z (steps_from [] ss n s go lt e)

-- one more goes on from one that stands there
pub goes_behind : (ss : List JournalStep) (s : JournalStep) → GoBack 0 ss → GoesBack (length (journals_of [] ss)) s → GoBack 0 (ss ++ s ∷ [])
goes_behind ss s go back =
    let n : length (journals_of [] ss) ≡ 0 + length ss = omega (arith, as_many ss) in
    goes_more 0 ss s go (subst (λ (k : ℕ). GoesBack k s) n back)

-- an entry is behind its journal
pub before_entry : (j : Journal) (e : Entry) → journal_before (with_entry j e) ≡ j
before_entry j e = refl
