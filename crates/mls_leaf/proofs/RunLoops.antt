-- Items whose format depends on those before them, one after the other, as the loops go that read them.
use Rattle.std.proofs.Common.{◌≡◌, ℕ, zero, suc, ◌<◌, ◌≤◌, List, [], ◌∷◌, ◌++◌, length, Result, Ok, Err, refl, sym, ap, ◌∙◌, append_assoc, arith}
use Rattle.std.proofs.lemmas.List.{append-nil, length-append}
use Rattle.mls_wire.specs.Reading.{◌>>=◌}
use Rattle.mls_wire.specs.Format.{Format, IsBytes}
use Rattle.mls_wire.specs.CombineLaws.{forgotten_step}
use Rattle.mls_wire.specs.CombineReads.{IsNonempty, without_value}
use Rattle.mls_wire.specs.StatefulReads.{Rule, run_at}

-- what was read before, and what is still read
abbrev pub with_front : {V : Type 0} → List V → Result (List V) ℕ → Result (List V) ℕ
with_front front read = read >>= λ vs. Ok (front ++ vs)

abbrev pub good_all : {V : Type 0} → List V → Result (List V) ℕ
good_all l = Ok l

pub regroup : {V : Type 0} (front : List V) (v : V) (read : Result (List V) ℕ) → with_front front (read >>= λ vs. Ok (v ∷ vs)) ≡ with_front (front ++ v ∷ []) read
regroup {V} front v (Ok vs) = ap (λ (l : List V). good_all l) (sym (append_assoc front (v ∷ []) vs))
regroup front v (Err f) = refl

-- a value takes a byte or more
pub is_shorter : {V : Type 0} (a : Format V) (nonempty : IsNonempty a) (bytes rest : List ℕ) (v : V) → IsBytes bytes → a.read bytes ≡ Ok (v, rest) → length rest < length bytes
is_shorter a nonempty bytes rest v fits e =
    let t = a.lawful.takes bytes v rest fits e in
    let len : length bytes ≡ length (a.spell v ++ rest) = ap length t.0.parts in
    omega (arith, nonempty v t.1, length-append (a.spell v) rest)

-- What is left is read in the state s to the answer for all of it.
pub record GoesOnFrom {S V : Type 0} (rule : Rule S V) (total : Result (List V) ℕ) (front : List V) (s : S) (bytes : List ℕ) : Type 0 where
  pub fuel : ℕ
  pub enough : length bytes ≤ fuel
  pub so_far : with_front front (run_at rule fuel s bytes) ≡ total

pub nothing_in_front : {V : Type 0} (read : Result (List V) ℕ) → with_front [] read ≡ read
nothing_in_front (Ok vs) = refl
nothing_in_front (Err f) = refl

pub begins_from : {S V : Type 0} (rule : Rule S V) (s : S) (bytes : List ℕ) → GoesOnFrom rule (run_at rule (length bytes) s bytes) [] s bytes
begins_from rule s bytes = record { fuel = length bytes; enough = omega arith; so_far = nothing_in_front (run_at rule (length bytes) s bytes) }

step_from : {S V : Type 0} (rule : Rule S V) (total : Result (List V) ℕ) (front : List V) (s : S) (fuel : ℕ) (bytes rest : List ℕ) (v : V) → length rest < length bytes → length bytes ≤ fuel → (rule.item s).read bytes ≡ Ok (v, rest)
    → with_front front (run_at rule fuel s bytes) ≡ total → GoesOnFrom rule total (front ++ v ∷ []) (rule.next s v) rest
step_from rule total front s fuel [] rest v lt enough e so_far = absurd (omega arith)
step_from rule total front s zero (b ∷ bytes) rest v lt enough e so_far = absurd (omega arith)
step_from rule total front s (suc fuel) (b ∷ bytes) rest v lt enough e so_far =
    let one : with_front front (run_at rule (suc fuel) s (b ∷ bytes)) ≡ with_front (front ++ v ∷ []) (run_at rule fuel (rule.next s v) rest) = rw e (regroup front v (run_at rule fuel (rule.next s v) rest)) in
    record { fuel = fuel; enough = omega arith; so_far = sym one ∙ so_far }

pub goes_on_from : {S V : Type 0} (rule : Rule S V) (total : Result (List V) ℕ) (front : List V) (s : S) (bytes rest : List ℕ) (v : V) → IsBytes bytes → (rule.item s).read bytes ≡ Ok (v, rest) → GoesOnFrom rule total front s bytes → GoesOnFrom rule total (front ++ v ∷ []) (rule.next s v) rest
goes_on_from rule total front s bytes rest v fits e before = step_from rule total front s before.fuel bytes rest v (is_shorter (rule.item s) (rule.nonempty s) bytes rest v fits e) before.enough e before.so_far

stops_from : {S V : Type 0} (rule : Rule S V) (total : Result (List V) ℕ) (front : List V) (s : S) (fuel : ℕ) (bytes : List ℕ) (f : ℕ) → 0 < length bytes → length bytes ≤ fuel → (rule.item s).read bytes ≡ Err f → with_front front (run_at rule fuel s bytes) ≡ total → total ≡ Err f
stops_from rule total front s fuel [] f some enough e so_far = absurd (omega arith)
stops_from rule total front s zero (b ∷ bytes) f some enough e so_far = absurd (omega arith)
stops_from rule total front s (suc fuel) (b ∷ bytes) f some enough e so_far =
    let one : with_front front (run_at rule (suc fuel) s (b ∷ bytes)) ≡ Err f = rw e refl in
    sym so_far ∙ one

-- an item's fault is the fault of all
pub ends_from : {S V : Type 0} (rule : Rule S V) (total : Result (List V) ℕ) (front : List V) (s : S) (bytes : List ℕ) (f : ℕ) → 0 < length bytes → (rule.item s).read bytes ≡ Err f → GoesOnFrom rule total front s bytes → total ≡ Err f
ends_from rule total front s bytes f some e b = stops_from rule total front s b.fuel bytes f some b.enough e b.so_far

-- nothing is left
pub is_done_from : {S V : Type 0} (rule : Rule S V) (total : Result (List V) ℕ) (front : List V) (s : S) (bytes : List ℕ) → bytes ≡ [] → GoesOnFrom rule total front s bytes → total ≡ Ok front
is_done_from {S} {V} rule total front s bytes nil b =
    let one : with_front front (run_at rule b.fuel s bytes) ≡ Ok front = rw nil (ap (λ (l : List V). good_all l) (append-nil front)) in
    sym b.so_far ∙ one

-- ---- reading past

-- What is left is read past in the state s to the answer for all of it.
pub record PastFrom {S V : Type 0} (rule : Rule S V) (total : Result (Unit {0}) ℕ) (s : S) (bytes : List ℕ) : Type 0 where
  pub fuel : ℕ
  pub enough : length bytes ≤ fuel
  pub so_far : without_value (run_at rule fuel s bytes) ≡ total

pub past_begins_from : {S V : Type 0} (rule : Rule S V) (s : S) (bytes : List ℕ) → PastFrom rule (without_value (run_at rule (length bytes) s bytes)) s bytes
past_begins_from rule s bytes = record { fuel = length bytes; enough = omega arith; so_far = refl }

past_step_from : {S V : Type 0} (rule : Rule S V) (total : Result (Unit {0}) ℕ) (s : S) (fuel : ℕ) (bytes rest : List ℕ) (v : V) → length rest < length bytes → length bytes ≤ fuel → (rule.item s).read bytes ≡ Ok (v, rest)
    → without_value (run_at rule fuel s bytes) ≡ total → PastFrom rule total (rule.next s v) rest
past_step_from rule total s fuel [] rest v lt enough e so_far = absurd (omega arith)
past_step_from rule total s zero (b ∷ bytes) rest v lt enough e so_far = absurd (omega arith)
past_step_from rule total s (suc fuel) (b ∷ bytes) rest v lt enough e so_far =
    let one : without_value (run_at rule (suc fuel) s (b ∷ bytes)) ≡ without_value (run_at rule fuel (rule.next s v) rest) = rw e (sym (forgotten_step v (run_at rule fuel (rule.next s v) rest))) in
    record { fuel = fuel; enough = omega arith; so_far = sym one ∙ so_far }

pub past_goes_on_from : {S V : Type 0} (rule : Rule S V) (total : Result (Unit {0}) ℕ) (s : S) (bytes rest : List ℕ) (v : V) → IsBytes bytes → (rule.item s).read bytes ≡ Ok (v, rest) → PastFrom rule total s bytes → PastFrom rule total (rule.next s v) rest
past_goes_on_from rule total s bytes rest v fits e before = past_step_from rule total s before.fuel bytes rest v (is_shorter (rule.item s) (rule.nonempty s) bytes rest v fits e) before.enough e before.so_far

past_stops_from : {S V : Type 0} (rule : Rule S V) (total : Result (Unit {0}) ℕ) (s : S) (fuel : ℕ) (bytes : List ℕ) (f : ℕ) → 0 < length bytes → length bytes ≤ fuel → (rule.item s).read bytes ≡ Err f → without_value (run_at rule fuel s bytes) ≡ total → total ≡ Err f
past_stops_from rule total s fuel [] f some enough e so_far = absurd (omega arith)
past_stops_from rule total s zero (b ∷ bytes) f some enough e so_far = absurd (omega arith)
past_stops_from rule total s (suc fuel) (b ∷ bytes) f some enough e so_far =
    let one : without_value (run_at rule (suc fuel) s (b ∷ bytes)) ≡ Err f = rw e refl in
    sym so_far ∙ one

pub past_ends_from : {S V : Type 0} (rule : Rule S V) (total : Result (Unit {0}) ℕ) (s : S) (bytes : List ℕ) (f : ℕ) → 0 < length bytes → (rule.item s).read bytes ≡ Err f → PastFrom rule total s bytes → total ≡ Err f
past_ends_from rule total s bytes f some e b = past_stops_from rule total s b.fuel bytes f some b.enough e b.so_far

pub past_is_done_from : {S V : Type 0} (rule : Rule S V) (total : Result (Unit {0}) ℕ) (s : S) (bytes : List ℕ) → bytes ≡ [] → PastFrom rule total s bytes → total ≡ Ok tt
past_is_done_from rule total s bytes nil b =
    let one : without_value (run_at rule b.fuel s bytes) ≡ Ok tt = rw nil refl in
    sym b.so_far ∙ one
