-- Items one behind the other, as the loop goes.
use Rattle.std.proofs.Common.{◌≡◌, ℕ, zero, suc, ◌+◌, ◌<◌, ◌≤◌, ◌^◌, List, [], ◌∷◌, length, Result, Ok, Err, refl, sym, ap, subst, ◌∙◌, arith}
use Rattle.mls_wire.specs.Format.{Format, IsBytes}
use Rattle.mls_wire.specs.Laws.{opaque_bytes}
use Rattle.mls_wire.specs.Reading.{opaque_at}
use Rattle.mls_wire.specs.CombineReads.{IsNonempty}
use Rattle.mls_leaf.proofs.Loops.{is_shorter_past}
use Rattle.mls_cli_place.specs.declared.place.Found.{Found}
use Rattle.mls_cli_place.specs.declared.step.Step.TheVariants.{Item}
use Rattle.mls_cli_place.specs.Finding.{AllWithin, Finds, FindsAll, content_shorter, number_in}
use Rattle.mls_cli_place.specs.Walk.{Walk, all_items, enclosed_by, followed, inside, items}

-- What is left is read past to the answer for all of the bytes, and the number of the next item is small.
abbrev pub GoesOn : Walk → List ℕ → ℕ → List ℕ → Type 0
GoesOn walk whole i bytes = (fuel : ℕ) × (length bytes ≤ fuel) × (i + length bytes ≤ length whole) × (items walk i fuel bytes ≡ all_items walk whole)

pub begins : (walk : Walk) (whole : List ℕ) → GoesOn walk whole 0 whole
begins walk whole = (length whole, omega arith, omega arith, refl)

step : (walk : Walk) (total : Result (Unit {0}) Found) (i fuel : ℕ) (bytes rest : List ℕ) → length rest < length bytes → length bytes ≤ fuel → walk bytes ≡ Ok rest → items walk i fuel bytes ≡ total
    → (k : ℕ) × (length rest ≤ k) × (items walk (i + 1) k rest ≡ total)
step walk total i fuel [] rest lt enough e so_far = absurd (omega arith)
step walk total i zero (b ∷ bytes) rest lt enough e so_far = absurd (omega arith)
step walk total i (suc fuel) (b ∷ bytes) rest lt enough e so_far =
    (fuel, omega arith, sym (ap (λ (r : Result (List ℕ) Found). followed (inside (Item i) r) (items walk (i + 1) fuel)) e) ∙ so_far)

abbrev at_rest : List ℕ → Result (List ℕ) Found
at_rest rest = Ok rest

walk_ok : (w : Result (List ℕ) Found) (rest : List ℕ) → number_in w ≡ Ok rest → w ≡ Ok rest
walk_ok (Ok x) rest e = let same : x ≡ rest = cc in ap (λ (l : List ℕ). at_rest l) same
walk_ok (Err f) rest e = absurd cc

-- what is read past is walked past
pub passed_walk : {walk : Walk} {pass : List ℕ → Result (List ℕ) ℕ} → Finds walk pass → (bytes rest : List ℕ) → pass bytes ≡ Ok rest → walk bytes ≡ Ok rest
passed_walk {walk} h bytes rest e = walk_ok (walk bytes) rest (h.same bytes ∙ e)

-- what is walked past is read past
pub walked_past : {walk : Walk} {pass : List ℕ → Result (List ℕ) ℕ} → Finds walk pass → (bytes rest : List ℕ) → walk bytes ≡ Ok rest → pass bytes ≡ Ok rest
walked_past h bytes rest e = sym (h.same bytes) ∙ ap (λ (r : Result (List ℕ) Found). number_in r) e

pub is_shorter : {V : Type 0} {walk : Walk} (a : Format V) → IsNonempty a → Finds walk a.pass → (bytes rest : List ℕ) → IsBytes bytes → walk bytes ≡ Ok rest → length rest < length bytes
is_shorter a nonempty h bytes rest fits e = is_shorter_past a nonempty bytes rest fits (walked_past h bytes rest e)

pub goes_on : (walk : Walk) (whole : List ℕ) (i : ℕ) (bytes rest : List ℕ) → length rest < length bytes → walk bytes ≡ Ok rest → GoesOn walk whole i bytes → GoesOn walk whole (i + 1) rest
goes_on walk whole i bytes rest lt e before =
    let next = step walk (all_items walk whole) i before.0 bytes rest lt before.1 e before.3 in
    let small : i + 1 + length rest ≤ length whole = omega (arith, lt, before.2) in
    (next.0, next.1, small, next.2)

some_left : (bytes : List ℕ) → (bytes ≡ [] → ⊥) → 0 < length bytes
some_left [] h = absurd (h refl)
some_left (b ∷ bytes) h = omega arith

stop : (walk : Walk) (total : Result (Unit {0}) Found) (i fuel : ℕ) (bytes : List ℕ) (f : Found) → 0 < length bytes → length bytes ≤ fuel → walk bytes ≡ Err f → items walk i fuel bytes ≡ total → total ≡ Err (enclosed_by (Item i) f)
stop walk total i fuel [] f some enough e so_far = absurd (omega arith)
stop walk total i zero (b ∷ bytes) f some enough e so_far = absurd (omega arith)
stop walk total i (suc fuel) (b ∷ bytes) f some enough e so_far = sym so_far ∙ ap (λ (r : Result (List ℕ) Found). followed (inside (Item i) r) (items walk (i + 1) fuel)) e

pub stops : (walk : Walk) (whole : List ℕ) (i : ℕ) (bytes : List ℕ) (f : Found) → (bytes ≡ [] → ⊥) → walk bytes ≡ Err f → GoesOn walk whole i bytes → all_items walk whole ≡ Err (enclosed_by (Item i) f)
stops walk whole i bytes f some e before = stop walk (all_items walk whole) i before.0 bytes f (some_left bytes some) before.1 e before.3

-- nothing is left
pub is_done : (walk : Walk) (whole : List ℕ) (i : ℕ) (bytes : List ℕ) → bytes ≡ [] → GoesOn walk whole i bytes → all_items walk whole ≡ Ok tt
is_done walk whole i bytes nil before = sym before.3 ∙ ap (λ (bs : List ℕ). items walk i before.0 bs) nil

-- the next item's number is small
pub next_fits : (walk : Walk) (whole : List ℕ) (i : ℕ) (bytes : List ℕ) → length whole < 2 ^ 64 → (bytes ≡ [] → ⊥) → GoesOn walk whole i bytes → i + 1 < 2 ^ 64
next_fits walk whole i bytes size some before = omega (arith, size, some_left bytes some, before.2)

-- ---- contents of vectors

all_left : (bytes : List ℕ) (r : Result (Unit {0}) Found) (f : Found) → r ≡ Err f → AllWithin bytes r → f.left ≤ length bytes
all_left bytes (Ok u) f e h = absurd cc
all_left bytes (Err g) f e h = let same : g ≡ f = cc in subst (λ (x : Found). x.left ≤ length bytes) same h

-- what is left behind a fault in a content has a small number of bytes
pub fault_fits : {all : List ℕ → Result (Unit {0}) Found} {pass : List ℕ → Result (Unit {0}) ℕ} → FindsAll all pass → (old content new : List ℕ) (behind : ℕ) (f : Found) → IsBytes old → length old < 2 ^ 64
    → opaque_at old ≡ Ok (content, new) → behind ≡ length new → all content ≡ Err f → f.left + behind < 2 ^ 64
fault_fits {all} {pass} h old content new behind f fits size e is stopped =
    let inner = all_left content (all content) f stopped (h.within content (opaque_bytes old content new fits e)) in
    omega (arith, inner, content_shorter old content new fits e, size, is)
