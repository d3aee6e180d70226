-- What is reported of how far a replay has come: behind each action, how many actions of how many
-- are done. What takes reports says how one changes it; nothing is said here of what it shows.
use Rattle.std.specs.Prelude.{◌≡◌, ◌≤◌, ℕ, zero, suc, List, length, take, slice_get, Some, Result, Ok, Err, OnErr}
use Rattle.mls_suite.specs.Crypto.{Crypto}
use Rattle.mls_model.specs.World.{World}
use Rattle.mls_cli_recording.specs.Calls.{Recording}
use Rattle.mls_cli_recording.specs.Recording.{recording}
use Rattle.mls_cli_recording.specs.declared.actions.Action.{Action}
use Rattle.mls_cli_recording.specs.declared.reading.RecordedRun.{RecordedRun}
use Rattle.mls_cli_replay.specs.Actions.{events_in, run_all, HasRunPart}

-- one report behind each of the first so many actions of all, in their order
unfoldable pub ReportsFirst : {P : Type 0} → (P → P → ℕ → ℕ → Type 0) → ℕ → ℕ → P → P → Type 0
ReportsFirst reports all zero old new = new ≡ old
ReportsFirst {P} reports all (suc n) old new =
    (before : P) × ReportsFirst reports all n old before × reports before new (suc n) all

-- one behind each of all actions; on a fault, behind each of those before it
abbrev pub Reports : {P T E : Type 0} → (P → P → ℕ → ℕ → Type 0) → ℕ → P → P → Result T E → Type 0
Reports reports all old new (Ok x) = ReportsFirst reports all all old new
Reports reports all old new (Err e) =
    (done : ℕ) × (done ≤ all) × ReportsFirst reports all done old new

-- of what was read
abbrev pub ReportsRun : {P T E : Type 0} → (P → P → ℕ → ℕ → Type 0) → RecordedRun → P → P →
    Result T E → Type 0
ReportsRun reports run old new result = Reports reports (length run.actions.items) old new result

-- of a recording; a file that is none has no reports
abbrev pub ReportsRecording : {P T E : Type 0} → (P → P → ℕ → ℕ → Type 0) → Result Recording ℕ →
    P → P → Result T E → Type 0
ReportsRecording reports (Ok parts) old new result =
    Reports reports (length parts.actions) old new result
ReportsRecording reports (Err n) old new result = new ≡ old

-- of a file, which has to be a recording for the suite
abbrev pub ReportsFile : {P T E : Type 0} → (P → P → ℕ → ℕ → Type 0) → Crypto → List ℕ → P → P →
    Result T E → Type 0
ReportsFile reports c file old new result =
    ReportsRecording reports (recording c.number file) old new result

-- ---- where want of memory stops what does actions

-- It stops within one: each of those before it is done and reported, it is not reported, some of
-- its events have happened, and none behind it has begun.
pub record HasDonePart {P : Type 0} (reports : P → P → ℕ → ℕ → Type 0) (c : Crypto) (w v : World)
    (actions : List Action) (old new : P) : Type 0 where
  pub count : ℕ
  pub one : Action
  pub is : slice_get actions count ≡ Some one
  pub reached : World
  pub before : reached ≡ run_all c w (take count actions)
  pub reported : ReportsFirst reports (length actions) count old new
  pub part : HasRunPart c reached v (events_in reached one)

-- Where it fails, some of them are done.
abbrev pub DoesPart : {P T E : Type 0} → (P → P → ℕ → ℕ → Type 0) → P → P → Crypto → World →
    World → List Action → Result T E → Type 0
DoesPart reports told now c old new actions result =
    OnErr result (HasDonePart reports c old new actions told now)
