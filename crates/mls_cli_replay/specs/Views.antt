-- What can be printed of a recording: its replay, what isn't as expected in it, a message, a
-- member's tree, or the recording again with what it came to. There is one refusal for all, where a
-- file is no recording for the suite.
use Rattle.std.specs.Prelude.{◌≡◌, ℕ, List, Option, Result, Ok, Err}
use Rattle.mls_suite.specs.Crypto.{Crypto}
use Rattle.mls_cli_text.specs.Page.{Printout, printout, refused}
use Rattle.mls_cli_text.specs.declared.fault.Fault.{Fault}
use Rattle.mls_cli_recording.specs.Calls.{Recording, recording_view}
use Rattle.mls_cli_recording.specs.Recording.{recording}
use Rattle.mls_cli_recording.specs.declared.reading.RecordedRun.{RecordedRun}
use Rattle.mls_cli_replay.specs.MemberTree.{IsTree}
use Rattle.mls_cli_replay.specs.Message.{digits_text, message_page}
use Rattle.mls_cli_replay.specs.Quiet.{quiet_page_of}
use Rattle.mls_cli_replay.specs.RecordedReplies.{IsRecord}
use Rattle.mls_cli_replay.specs.Replay.{PrintsOne, entry_text, page_of_run}
use Rattle.mls_cli_replay.specs.declared.view.ReplayView.{ReplayView}
use Rattle.mls_cli_replay.specs.declared.view.ReplayView.TheVariants as view

-- what is printed of a file, of which this was read
abbrev pub IsViewOf : Crypto → ReplayView → List ℕ → RecordedRun → Printout → Type 0
IsViewOf c view.Replies file run p = p ≡ printout entry_text (page_of_run c run)
IsViewOf c view.Unmet file run p = p ≡ printout entry_text (quiet_page_of c run)
IsViewOf c (view.Message n) file run p =
    p ≡ printout digits_text (message_page c n run.actions.items)
IsViewOf c (view.Tree k) file run p = IsTree c k run.actions.items p
IsViewOf c view.Recording file run p = IsRecord c file run.actions.items p

-- such a printout of what was read, or the refusal of the file
abbrev pub IsPrintoutOn : (RecordedRun → Printout → Type 0) → Result Recording ℕ → Printout → Type 0
IsPrintoutOn Is (Ok parts) p =
    (run : RecordedRun) × (recording_view run ≡ parts) × Is run p
IsPrintoutOn Is (Err n) p = p ≡ printout entry_text (refused n)

-- what is printed of a file, which has to be a recording for the suite
abbrev pub IsView : Crypto → ReplayView → List ℕ → Printout → Type 0
IsView c asked file p = IsPrintoutOn (IsViewOf c asked file) (recording c.number file) p

-- ---- of the code's ends

-- such a view of what was read is printed
abbrev pub PrintsRun : {O : Type 0} → (O → Option (List ℕ)) → O → O → Crypto → ReplayView →
    List ℕ → RecordedRun → Result ℕ Fault → Type 0
PrintsRun contents old new c asked file run result =
    PrintsOne (IsViewOf c asked file run) (contents old) (contents new) result

-- such a view of a file is
abbrev pub PrintsView : {O : Type 0} → (O → Option (List ℕ)) → O → O → Crypto → ReplayView →
    List ℕ → Result ℕ Fault → Type 0
PrintsView contents old new c asked file result =
    PrintsOne (IsView c asked file) (contents old) (contents new) result
