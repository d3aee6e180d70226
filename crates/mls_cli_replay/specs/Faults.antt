-- How far a replay is where a fault ends it: what is reported of it, and what is printed.
use Rattle.std.specs.Prelude.{◌≡◌, ◌⊎◌, ⊤, ℕ, List, ◌++◌, length, Option, Result, Ok, Err, IfErr}
use Rattle.std.specs.Io.KnownBytes.{Appends, Keeps}
use Rattle.mls_suite.specs.Crypto.{Crypto}
use Rattle.mls_model.specs.World.{World, empty_world}
use Rattle.mls_cli_text.specs.declared.fault.Fault.{Fault}
use Rattle.mls_cli_text.specs.declared.fault.Fault.TheVariants.{OutOfMemory}
use Rattle.mls_cli_json.specs.declared.error.JsonError.{JsonError}
use Rattle.mls_cli_json.specs.declared.error.JsonError.TheVariants as error
use Rattle.mls_cli_recording.specs.Calls.{Recording, recording_view}
use Rattle.mls_cli_recording.specs.Recording.{recording}
use Rattle.mls_cli_recording.specs.declared.reading.Recorded.{Recorded}
use Rattle.mls_cli_recording.specs.declared.reading.RecordedRun.{RecordedRun}
use Rattle.mls_cli_replay.specs.Progress.{ReportsFirst}
use Rattle.mls_cli_replay.specs.Replay.{StopsAt, outcomes_text}
use Rattle.mls_cli_replay.specs.declared.view.ReplayView.{ReplayView}
use Rattle.mls_cli_replay.specs.declared.view.ReplayView.TheVariants as view

-- Where each action is printed and reported before the next one begins: it stopped at one; or all
-- are reported, and what is said of them is out.
abbrev pub StopsAlong : {P : Type 0} → (P → P → ℕ → ℕ → Type 0) → Crypto → List Recorded → P → P →
    Option (List ℕ) → Option (List ℕ) → Type 0
StopsAlong reports c rs told now old new =
    ((v : World) × StopsAt reports c empty_world rs old new told now v)
    ⊎ (ReportsFirst reports (length rs) (length rs) told now
    × ((rest : List ℕ) × Appends old new (outcomes_text c empty_world rs ++ rest)))

-- Where nothing is printed before all actions are reported: all are; or memory was refused, and
-- nothing is out.
abbrev pub StopsBehind : {P : Type 0} → (P → P → ℕ → ℕ → Type 0) → ℕ → P → P → Option (List ℕ) →
    Option (List ℕ) → Fault → Type 0
StopsBehind reports all told now old new fault =
    ReportsFirst reports all all told now ⊎ ((fault ≡ OutOfMemory) × Keeps old new)

-- replies are printed one by one, all else behind the last action
abbrev pub StopsView : {P : Type 0} → (P → P → ℕ → ℕ → Type 0) → Crypto → ReplayView →
    List Recorded → P → P → Option (List ℕ) → Option (List ℕ) → Fault → Type 0
StopsView reports c view.Replies rs told now old new fault =
    StopsAlong reports c rs told now old new
StopsView reports c view.Unmet rs told now old new fault =
    StopsBehind reports (length rs) told now old new fault
StopsView reports c (view.Message n) rs told now old new fault =
    StopsBehind reports (length rs) told now old new fault
StopsView reports c (view.Tree k) rs told now old new fault =
    StopsBehind reports (length rs) told now old new fault
StopsView reports c view.Recording rs told now old new fault =
    StopsBehind reports (length rs) told now old new fault

-- of a recording, unless memory for what is read of it is refused: then none of it has begun
abbrev pub StopsRecording : {P : Type 0} → (P → P → ℕ → ℕ → Type 0) → Crypto → ReplayView →
    Result Recording ℕ → P → P → Option (List ℕ) → Option (List ℕ) → Fault → Type 0
StopsRecording reports c asked (Ok parts) told now old new fault =
    ((run : RecordedRun) × (recording_view run ≡ parts)
    × StopsView reports c asked run.actions.items told now old new fault)
    ⊎ ((fault ≡ OutOfMemory) × Keeps old new × (now ≡ told))
StopsRecording reports c asked (Err n) told now old new fault = now ≡ told

-- ---- of the code's ends

-- where a call on what was read fails
abbrev pub StopsRun : {O P : Type 0} → (O → Option (List ℕ)) → O → O → (P → P → ℕ → ℕ → Type 0) →
    P → P → Crypto → RecordedRun → Result ℕ Fault → Type 0
StopsRun contents old new reports told now c run result =
    IfErr result (λ (e : Fault).
    StopsAlong reports c run.actions.items told now (contents old) (contents new))

abbrev pub StopsBehindAll : {O P : Type 0} → (O → Option (List ℕ)) → O → O →
    (P → P → ℕ → ℕ → Type 0) → P → P → List Recorded → Result ℕ Fault → Type 0
StopsBehindAll contents old new reports told now rs result =
    IfErr result (λ (e : Fault).
    StopsBehind reports (length rs) told now (contents old) (contents new) e)

abbrev pub StopsBehindRun : {O P : Type 0} → (O → Option (List ℕ)) → O → O →
    (P → P → ℕ → ℕ → Type 0) → P → P → RecordedRun → Result ℕ Fault → Type 0
StopsBehindRun contents old new reports told now run result =
    StopsBehindAll contents old new reports told now run.actions.items result

-- where such a call fails, by the view that is asked for
abbrev pub StopsAsked : {O P : Type 0} → (O → Option (List ℕ)) → O → O → (P → P → ℕ → ℕ → Type 0) →
    P → P → Crypto → ReplayView → RecordedRun → Result ℕ Fault → Type 0
StopsAsked contents old new reports told now c asked run result =
    IfErr result (λ (e : Fault).
    StopsView reports c asked run.actions.items told now (contents old) (contents new) e)

-- where a call on a file fails, of which this view is asked for
abbrev pub StopsFile : {O P : Type 0} → (O → Option (List ℕ)) → O → O → (P → P → ℕ → ℕ → Type 0) →
    P → P → Crypto → ReplayView → List ℕ → Result ℕ Fault → Type 0
StopsFile contents old new reports told now c asked file result =
    IfErr result (λ (e : Fault).
    StopsRecording reports c asked (recording c.number file) told now (contents old)
    (contents new) e)

-- where a file isn't read for want of memory, that is the fault
abbrev pub StopsUnread : JsonError → Result ℕ Fault → Type 0
StopsUnread error.OutOfMemory result = result ≡ Err OutOfMemory
StopsUnread error.NotHex result = ⊤
StopsUnread error.BadJson result = ⊤
