-- Where a fault ends a replay: what was reported of it, and what is out.
use Rattle.std.proofs.Common.{◌≡◌, ◌≢◌, ◌∙◌, ◌++◌, ℕ, List, Option, Result, Ok, Err, inl, inr, length, arith, refl, subst}
use Rattle.std.proofs.KnownBytes.{Appends-trans, Keeps-refl}
use Rattle.std.specs.Io.KnownBytes.{Appends}
use Rattle.std.specs.Prelude.{IfErr}
use Rattle.std.specs.Result.{IsErrAnd}
use Rattle.mls_suite.specs.Crypto.{Crypto}
use Rattle.mls_model.specs.World.{World, empty_world}
use Rattle.mls_cli_text.specs.InputOutput.{AppendsPart}
use Rattle.mls_cli_text.specs.declared.fault.Fault.{Fault}
use Rattle.mls_cli_text.specs.declared.fault.Fault.TheVariants.{OutOfMemory}
use Rattle.mls_cli_json.specs.Faults.{number_of}
use Rattle.mls_cli_json.specs.declared.error.JsonError.{JsonError}
use Rattle.mls_cli_json.specs.declared.error.JsonError.TheVariants as error
use Rattle.mls_cli_recording.specs.Calls.{Recording, recording_view}
use Rattle.mls_cli_recording.specs.Recording.{recording}
use Rattle.mls_cli_recording.specs.declared.reading.Recorded.{Recorded}
use Rattle.mls_cli_recording.specs.declared.reading.RecordedRun.{RecordedRun}
use Rattle.mls_cli_replay.specs.Faults.{StopsAlong, StopsBehind, StopsRecording, StopsUnread, StopsView}
use Rattle.mls_cli_replay.specs.Progress.{ReportsFirst}
use Rattle.mls_cli_replay.specs.Replay.{IsRefusal, PrintsOne, StopsAt, outcomes_text}
use Rattle.mls_cli_replay.specs.declared.view.ReplayView.{ReplayView}

-- ---- where each action is printed as it is done

module _ {P : Type 0} (reports : P → P → ℕ → ℕ → Type 0) (c : Crypto) (rs : List Recorded) (told now : P) where
  -- at an action
  pub stops_along : (w v : World) (old new : Option (List ℕ)) (r : Result ℕ Fault) → w ≡ empty_world → StopsAt reports c w rs old new told now v
      → IfErr r (λ (e : Fault). StopsAlong reports c rs told now old new)
  stops_along w v old new (Ok x) begun stopped = tt
  stops_along w v old new (Err e) begun stopped = inl (v, subst (λ (x : World). StopsAt reports c x rs old new told now v) begun stopped)

  -- behind the last one
  pub stops_ending : (w : World) (old mid new : Option (List ℕ)) (more : List ℕ) (r : Result ℕ Fault) → w ≡ empty_world → ReportsFirst reports (length rs) (length rs) told now
      → Appends old mid (outcomes_text c w rs) → AppendsPart mid new more → IfErr r (λ (e : Fault). StopsAlong reports c rs told now old new)
  stops_ending w old mid new more (Ok x) begun all said part = tt
  stops_ending w old mid new more (Err e) begun all said (done, rest, is, left, grew) =
      let whole : Appends old new (outcomes_text c w rs ++ done) = Appends-trans old mid new (outcomes_text c w rs) done said grew in
      inr (all, (done, subst (λ (x : World). Appends old new (outcomes_text c x rs ++ done)) begun whole))

-- ---- where all is printed behind the last action

module _ {P : Type 0} (reports : P → P → ℕ → ℕ → Type 0) (all : ℕ) (told now : P) where
  -- all were reported before it
  pub stops_behind : (old new : Option (List ℕ)) (r : Result ℕ Fault) → ReportsFirst reports all all told now → IfErr r (λ (e : Fault). StopsBehind reports all told now old new e)
  stops_behind old new (Ok x) first = tt
  stops_behind old new (Err e) first = inl first

  -- memory was refused before it
  pub stops_before : (a : Option (List ℕ)) (r : Result ℕ Fault) → IsErrAnd r (λ (e : Fault). e ≡ OutOfMemory) → IfErr r (λ (e : Fault). StopsBehind reports all told now a a e)
  stops_before a (Ok x) memory = tt
  stops_before a (Err e) memory = inr (memory, Keeps-refl a)

  pub stops_with : (a : Option (List ℕ)) (r : Result ℕ Fault) (f : Fault) → f ≡ OutOfMemory → IsErrAnd r (λ (e : Fault). e ≡ f) → IfErr r (λ (e : Fault). StopsBehind reports all told now a a e)
  stops_with a (Ok x) f memory same = tt
  stops_with a (Err e) f memory same = inr (same ∙ memory, Keeps-refl a)

-- ---- of a file

module _ {P : Type 0} (reports : P → P → ℕ → ℕ → Type 0) (c : Crypto) (asked : ReplayView) (file : List ℕ) where
  pub run_stops : (run : RecordedRun) (told now : P) (old new : Option (List ℕ)) (r : Result ℕ Fault) → recording c.number file ≡ Ok (recording_view run)
      → IfErr r (λ (e : Fault). StopsView reports c asked run.actions.items told now old new e) → IfErr r (λ (e : Fault). StopsRecording reports c asked (recording c.number file) told now old new e)
  run_stops run told now old new (Ok x) is stops = tt
  run_stops run told now old new (Err e) is stops = rw is (inl (run, refl, stops))

  unread : (found : Result Recording ℕ) (p : P) (old new : Option (List ℕ)) (r : Result ℕ Fault) → PrintsOne (IsRefusal error.OutOfMemory) old new r → r ≡ Err OutOfMemory
      → IfErr r (λ (e : Fault). StopsRecording reports c asked found p p old new e)
  unread found p old new (Ok x) prints ends = tt
  unread (Ok parts) p old new (Err e) (inl kept) ends = inr (cc, kept, refl)
  unread (Ok parts) p old new (Err e) (inr (q, never, part)) ends = absurd never
  unread (Err n) p old new (Err e) prints ends = refl

  pub refusal_stops : (e : JsonError) (p : P) (old new : Option (List ℕ)) (r : Result ℕ Fault) → (number_of e ≢ 1 → recording c.number file ≡ Err (number_of e))
      → PrintsOne (IsRefusal e) old new r → StopsUnread e r → IfErr r (λ (f : Fault). StopsRecording reports c asked (recording c.number file) p p old new f)
  refusal_stops error.OutOfMemory p old new r is prints ends = unread (recording c.number file) p old new r prints ends
  refusal_stops error.NotHex p old new (Ok x) is prints ends = tt
  refusal_stops error.NotHex p old new (Err f) is prints ends = rw (is (λ q. omega arith)) refl
  refusal_stops error.BadJson p old new (Ok x) is prints ends = tt
  refusal_stops error.BadJson p old new (Err f) is prints ends = rw (is (λ q. omega arith)) refl
