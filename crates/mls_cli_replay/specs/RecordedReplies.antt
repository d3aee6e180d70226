-- What `mls replay --record` prints: the recording again, where each reply is expected, and in
-- version 2 each line in the end.
use Rattle.std.specs.Prelude.{◌≡◌, ℕ, List, [], ◌∷◌, ◌++◌, codes, map, string_bytes, Option, Some, Result, IfOk}
use Rattle.std.specs.Global.{Global}
use Rattle.std.specs.declared.string.String.{String}
use Rattle.serde_json.specs.Data.{Data}
use Rattle.serde_json.specs.View.{view}
use Rattle.serde_json.specs.declared.value.Value.{Value}
use Rattle.mls_suite.specs.Crypto.{Crypto}
use Rattle.mls_model.specs.World.{Seat, empty_world}
use Rattle.mls_cli_text.specs.Page.{Printout, good, page_of, printout}
use Rattle.mls_cli_text.specs.declared.page.Page as code
use Rattle.mls_cli_text.specs.declared.fault.Fault.{Fault}
use Rattle.mls_cli_json.specs.Json.{data_in}
use Rattle.mls_cli_record.specs.Record.{IsTextOf, record_of}
use Rattle.mls_cli_recording.specs.declared.reading.Recorded.{Recorded}
use Rattle.mls_cli_recording.specs.declared.reading.RecordedRun.{RecordedRun}
use Rattle.mls_cli_replay.specs.Actions.{outcomes, run_all}
use Rattle.mls_cli_replay.specs.Replay.{PrintsOne, actions_of, entry_words, member_entries}
use Rattle.mls_cli_replay.specs.Reply.{outcome_text}
use Rattle.mls_cli_replay.specs.declared.record.FileText.{FileText}

-- the texts of replies
abbrev pub reply_texts : Crypto → List Recorded → List (List ℕ)
reply_texts c rs = map outcome_text (outcomes c empty_world (actions_of rs))

-- the lines of members, without line feeds
abbrev pub words_of_members : List Seat → List (List ℕ)
words_of_members seats = map entry_words (member_entries 0 seats)

abbrev pub end_texts : Crypto → List Recorded → List (List ℕ)
end_texts c rs = words_of_members (run_all c empty_world (actions_of rs)).seats

-- a text, and a line feed
abbrev pub file_text : List ℕ → List ℕ
file_text text = text ++ codes "\n"

-- a text of this JSON
abbrev pub IsTextPage : Data → Printout → Type 0
IsTextPage d p =
    (text : List ℕ) × IsTextOf text d × (p ≡ printout file_text (good (text ∷ [])))

-- a text of this JSON, with what the actions came to
abbrev pub IsRecordOf : Crypto → Data → List Recorded → Printout → Type 0
IsRecordOf c d rs p = IsTextPage (record_of (reply_texts c rs) (end_texts c rs) d) p

-- a text of a file's JSON, with what the actions came to
abbrev pub IsRecord : Crypto → List ℕ → List Recorded → Printout → Type 0
IsRecord c file rs p = (d : Data) × (data_in file ≡ Some d) × IsRecordOf c d rs p

-- ---- of the code's pages

-- Where there is memory for it, a page of such a text is made.
abbrev pub MakesText : {X : Type 0} → Data → Result (code.Page FileText) X → Type 0
MakesText d result =
    IfOk result (λ (p : code.Page FileText). (text : List ℕ) × IsTextOf text d
    × (page_of (λ (f : FileText). f.text.items) p ≡ good (text ∷ [])))

-- the page of a value, with these replies and these lines
abbrev pub MakesRecord : {X : Type 0} → List (String Global) → List (String Global) → Value →
    Result (code.Page FileText) X → Type 0
MakesRecord replies lines value result =
    MakesText (record_of (map string_bytes replies) (map string_bytes lines) (view value)) result

-- ---- of the code's ends

-- a value is printed with what the actions came to
abbrev pub PrintsRecordOf : {O : Type 0} → (O → Option (List ℕ)) → O → O → Crypto → Value →
    List Recorded → Result ℕ Fault → Type 0
PrintsRecordOf contents old new c value rs result =
    PrintsOne (IsRecordOf c (view value) rs) (contents old) (contents new) result

-- so is a file, of which this was read
abbrev pub PrintsRecord : {O : Type 0} → (O → Option (List ℕ)) → O → O → Crypto → List ℕ →
    RecordedRun → Result ℕ Fault → Type 0
PrintsRecord contents old new c file run result =
    PrintsOne (IsRecord c file run.actions.items) (contents old) (contents new) result
