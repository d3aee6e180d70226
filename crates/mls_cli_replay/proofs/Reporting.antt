-- Reports, one behind each action: of the first so many, of all, and of a file.
use Rattle.std.proofs.Common.{◌≡◌, ◌≢◌, ◌≤◌, ◌<◌, ◌+◌, ℕ, List, Option, Result, Ok, Err, IsErr, length, add-one, arith, refl, sym, subst}
use Rattle.std.proofs.lemmas.List.{length-map}
use Rattle.mls_suite.specs.Crypto.{Crypto}
use Rattle.mls_cli_text.specs.declared.fault.Fault.{Fault}
use Rattle.mls_cli_json.specs.Faults.{number_of}
use Rattle.mls_cli_json.specs.declared.error.JsonError.{JsonError}
use Rattle.mls_cli_json.specs.declared.error.JsonError.TheVariants as error
use Rattle.mls_cli_recording.specs.Calls.{Recording, recorded_view, recording_view}
use Rattle.mls_cli_recording.specs.Recording.{recording}
use Rattle.mls_cli_recording.specs.declared.reading.RecordedRun.{RecordedRun}
use Rattle.mls_cli_replay.specs.Progress.{Reports, ReportsFile, ReportsFirst, ReportsRecording, ReportsRun}
use Rattle.mls_cli_replay.specs.Replay.{IsRefusal, PrintsOne}

-- ---- before the action of number i

pub record Reported {P : Type 0} (reports : P → P → ℕ → ℕ → Type 0) (all i : ℕ) (old new : P) : Type 0 where
  pub within : i ≤ all
  pub first : ReportsFirst reports all i old new

pub reported_nothing : {P : Type 0} (reports : P → P → ℕ → ℕ → Type 0) (all : ℕ) (p : P) → Reported reports all 0 p p
unfolding ReportsFirst
reported_nothing reports all p = record { within = omega arith; first = refl }

pub reported_next : {P : Type 0} (reports : P → P → ℕ → ℕ → Type 0) (all i : ℕ) (old new now : P) → i < all → Reported reports all i old new → reports new now (i + 1) all
    → Reported reports all (i + 1) old now
unfolding ReportsFirst
reported_next reports all i old new now lt p one =
    subst (λ (n : ℕ). Reported reports all n old now) (sym (add-one i))
    (record { within = omega (arith, lt); first = (new, p.first, subst (λ (n : ℕ). reports new now n all) (add-one i) one) })

pub reported_all : {P : Type 0} (reports : P → P → ℕ → ℕ → Type 0) (all i : ℕ) (old new : P) → all ≤ i → Reported reports all i old new → ReportsFirst reports all all old new
reported_all reports all i old new le p =
    let same : i ≡ all = omega (arith, le, p.within) in
    subst (λ (n : ℕ). ReportsFirst reports all n old new) same p.first

-- ---- behind a call

pub reports_part : {P T E : Type 0} (reports : P → P → ℕ → ℕ → Type 0) (all i : ℕ) (old new : P) (r : Result T E) → IsErr r → Reported reports all i old new → Reports reports all old new r
reports_part reports all i old new (Ok x) err p = cc
reports_part reports all i old new (Err e) err p = (i, p.within, p.first)

pub reports_done : {P T E : Type 0} (reports : P → P → ℕ → ℕ → Type 0) (all : ℕ) (old new : P) (r : Result T E) → ReportsFirst reports all all old new → Reports reports all old new r
reports_done reports all old new (Ok x) first = first
reports_done reports all old new (Err e) first = (all, omega arith, first)

-- where a call stops at what another answered
pub reports_front : {P T E : Type 0} (reports : P → P → ℕ → ℕ → Type 0) (all : ℕ) (old new : P) (r : Result T E) → IsErr r
    → (done : ℕ) × (done ≤ all) × ReportsFirst reports all done old new → Reports reports all old new r
reports_front reports all old new (Ok x) err first = cc
reports_front reports all old new (Err e) err first = first

pub reports_none : {P T E : Type 0} (reports : P → P → ℕ → ℕ → Type 0) (all : ℕ) (p : P) (r : Result T E) → IsErr r → Reports reports all p p r
unfolding ReportsFirst
reports_none reports all p (Ok x) err = cc
reports_none reports all p (Err e) err = (0, omega arith, refl)

-- ---- of a file

none_reported : {P : Type 0} (reports : P → P → ℕ → ℕ → Type 0) (found : Result Recording ℕ) (p : P) (r : Result ℕ Fault) → IsErr r → ReportsRecording reports found p p r
none_reported reports (Ok parts) p r err = reports_none reports (length parts.actions) p r err
none_reported reports (Err n) p r err = refl

pub run_reported : {P : Type 0} (reports : P → P → ℕ → ℕ → Type 0) (c : Crypto) (file : List ℕ) (run : RecordedRun) (old new : P) (r : Result ℕ Fault)
    → recording c.number file ≡ Ok (recording_view run) → ReportsRun reports run old new r → ReportsFile reports c file old new r
run_reported reports c file run old new r is all =
    rw is (subst (λ (n : ℕ). Reports reports n old new r) (sym (length-map run.actions.items recorded_view)) all)

unprinted : (old new : Option (List ℕ)) (r : Result ℕ Fault) → PrintsOne (IsRefusal error.OutOfMemory) old new r → IsErr r
unprinted old new (Ok status) (p, never, grew, same) = absurd never
unprinted old new (Err e) prints = cc

pub refusal_reported : {P : Type 0} (reports : P → P → ℕ → ℕ → Type 0) (c : Crypto) (file : List ℕ) (e : JsonError) (p : P) (old new : Option (List ℕ)) (r : Result ℕ Fault)
    → (number_of e ≢ 1 → recording c.number file ≡ Err (number_of e)) → PrintsOne (IsRefusal e) old new r → ReportsFile reports c file p p r
refusal_reported reports c file error.OutOfMemory p old new r is prints = none_reported reports (recording c.number file) p r (unprinted old new r prints)
refusal_reported reports c file error.NotHex p old new r is prints = rw (is (λ q. omega arith)) refl
refusal_reported reports c file error.BadJson p old new r is prints = rw (is (λ q. omega arith)) refl
