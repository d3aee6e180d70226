-- What `mls replay --quiet` prints of a recording: what is said of the actions whose texts aren't
-- as expected, and then all that is said in the end.
use Rattle.std.specs.Prelude.{◌≡◌, ℕ, ◌+◌, if◌then◌else◌, List, [], ◌∷◌, ◌++◌, map, Option, Result, IfOk}
use Rattle.std.specs.Global.{Vec}
use Rattle.mls_suite.specs.Crypto.{Crypto}
use Rattle.mls_model.specs.World.{World, empty_world}
use Rattle.mls_cli_text.specs.Page.{Page, Prints, printout}
use Rattle.mls_cli_text.specs.declared.fault.Fault.{Fault}
use Rattle.mls_cli_recording.specs.declared.reading.Recorded.{Recorded}
use Rattle.mls_cli_recording.specs.declared.reading.RecordedRun.{RecordedRun}
use Rattle.mls_cli_replay.specs.Actions.{outcomes, run_all}
use Rattle.mls_cli_replay.specs.Replay.{ReplayEntry, action_entries, actions_of, closing_entries, ending_by, entry_of, entry_text, expectations_of, is_as_expected, is_met, lines_of}
use Rattle.mls_cli_replay.specs.declared.line.ReplayLine.{ReplayLine}
use Rattle.mls_cli_replay.specs.declared.reply.Outcome.{Outcome}

-- nothing is said of an action whose text is as expected
abbrev pub quiet_action : ℕ → Outcome → Option (List ℕ) → List ReplayEntry
quiet_action action outcome expect =
    if is_met outcome expect then [] else action_entries action outcome expect

-- of all actions, numbered from here on
unfoldable pub quiet_actions : ℕ → List Outcome → List (Option (List ℕ)) → List ReplayEntry
quiet_actions action (o ∷ os) (e ∷ es) =
    quiet_action action o e ++ quiet_actions (action + 1) os es
quiet_actions action os es = []

-- of all actions of a recording, from a world on
abbrev pub quiet_in : Crypto → World → List Recorded → List ReplayEntry
quiet_in c w rs = quiet_actions 0 (outcomes c w (actions_of rs)) (expectations_of rs)

unfoldable pub quiet_entries : Crypto → List Recorded → Option (List (List ℕ)) → List ReplayEntry
quiet_entries c rs lines =
    quiet_in c empty_world rs
    ++ closing_entries (run_all c empty_world (actions_of rs)).seats lines

-- it ends as the whole replay does
unfoldable pub quiet_page : Crypto → List Recorded → Option (List (List ℕ)) → Page ReplayEntry
quiet_page c rs lines = record {
  entries = quiet_entries c rs lines;
  ending = ending_by (is_as_expected c rs lines);
}

abbrev pub quiet_page_of : Crypto → RecordedRun → Page ReplayEntry
quiet_page_of c r = quiet_page c r.actions.items (lines_of r)

-- ---- of the code's ends

-- Where there is memory for it, the lines of actions whose texts aren't as expected are made.
abbrev pub CollectsUnmet : {E : Type 0} → Crypto → World → List Recorded →
    Result (Vec ReplayLine) E → Type 0
CollectsUnmet c w rs result =
    IfOk result (λ (v : Vec ReplayLine). map entry_of v.items ≡ quiet_in c w rs)

-- the quiet page of what was read is printed
abbrev pub PrintsQuiet : {O : Type 0} → (O → Option (List ℕ)) → O → O → Crypto → RecordedRun →
    Result ℕ Fault → Type 0
PrintsQuiet contents old new c r result =
    Prints (contents old) (contents new) result (printout entry_text (quiet_page_of c r))
