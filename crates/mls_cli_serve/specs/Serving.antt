-- What a served job leaves.
use Rattle.std.specs.Prelude.{◌≡◌, ◌≤◌, ◌⊎◌, ℕ, suc, Bool, true, false, List, [], take, Option, Some, None, Result, Ok, IfSome, string_bytes}
use Rattle.std.specs.Io.KnownBytes.{Appends, Keeps}
use Rattle.mls_suite.specs.Glass.{glass}
use Rattle.mls_cli_serve.specs.declared.tasks.NoJob.{NoJob}
use Rattle.mls_cli_serve.specs.declared.tasks.NoJob.TheVariants as no_job
use Rattle.mls_cli_serve.specs.declared.tasks.SuiteChoice.{SuiteChoice}
use Rattle.mls_cli_serve.specs.declared.tasks.SuiteChoice.TheVariants as choice
use Rattle.mls_cli_serve.specs.declared.tasks.Job.{Job}
use Rattle.mls_cli_serve.specs.declared.tasks.Job.TheVariants as job
use Rattle.mls_cli_text.specs.InputOutput.{AppendsPart, KeepsOrAppendsPart, out_failed, out_writer}
use Rattle.mls_cli_explain.specs.Explain.{told_page}
use Rattle.mls_cli_explain.specs.Explanations.{Told, explanation_view}
use Rattle.mls_cli_text.specs.Form.{file_limit}
use Rattle.mls_cli_text.specs.declared.form.Form.{Form}
use Rattle.mls_cli_text.specs.Page.{Printout, printout}
use Rattle.mls_cli_text.specs.Text.{line_text}
use Rattle.mls_cli_text.specs.declared.fault.Fault.{Fault}
use Rattle.mls_cli_text.specs.declared.fault.Fault.TheVariants as fault
use Rattle.mls_cli_show.specs.Show.{page_of as show_page}
use Rattle.mls_cli_check.specs.Check.{check_page}
use Rattle.mls_cli_check.specs.Drawing.{draw_page}
use Rattle.mls_cli_check.specs.declared.drawing.Drawing.{Drawing}
use Rattle.mls_cli_check.specs.declared.drawing.TreeSource.{TreeSource}
use Rattle.mls_cli_draw.specs.Picture.{row_text}
use Rattle.mls_cli_check.specs.GroupInfo.{group_info_page}
use Rattle.mls_cli_serve.specs.Layouts.{lines_printout}
use Rattle.mls_cli_serve.specs.Pages.{checking, crypto_of, file_page}
use Rattle.mls_cli_serve.specs.Remarks.{SaysRemark, asks_for_place}
use Rattle.mls_cli_serve.specs.Saying.{SaysOrFails, fault_text, out_of_memory}
use Rattle.mls_cli_serve.specs.declared.tasks.Request.{Request}
use Rattle.mls_cli_vectors.specs.VectorsReport.{entry_text, vectors_page}
use Rattle.mls_cli_text.specs.declared.output.Out.{Out}
use Rattle.mls_cli_serve.specs.MemberPicture.{IsMemberPicture}
use Rattle.mls_cli_replay.specs.Progress.{ReportsFile}
use Rattle.mls_cli_replay.specs.Replay.{PrintsOne}
use Rattle.mls_cli_replay.specs.Views.{IsView}
use Rattle.mls_cli_replay.specs.declared.view.ReplayView.{ReplayView}

-- what is printed of the drawing of a file of this text
abbrev pub drawing_printout : Form → TreeSource → Drawing → List ℕ → Printout
drawing_printout form source drawing text =
    printout row_text (file_page form text (draw_page source drawing form text))

-- what a job prints for a file of this text
abbrev pub IsPrintout : Job → List ℕ → Printout → Type 0
IsPrintout (job.Show file form detail layout) text p =
    p ≡ lines_printout layout (file_page form text (show_page detail form text))
IsPrintout (job.Check file form suite signatures group layout) text p =
    p ≡ lines_printout layout
    (file_page form text (check_page (checking suite signatures) form text group.now))
IsPrintout (job.CheckGroupInfo file form signatures layout) text p =
    p ≡ lines_printout layout
    (file_page form text (group_info_page glass (checking choice.Suite0001 signatures) form text))
IsPrintout (job.Draw file form source drawing) text p =
    p ≡ drawing_printout form source drawing text
IsPrintout (job.Replay file suite view progress) text p = IsView (crypto_of suite) view text p
IsPrintout (job.DrawMember file suite member drawing progress) text p =
    IsMemberPicture (crypto_of suite) member drawing text p
IsPrintout (job.Vectors file) text p = p ≡ printout entry_text (vectors_page text)

-- the output grows by the text of such a printout, with its status; or the status is 3, and it grows by less than such a
-- text or stays as it was
abbrev pub PrintsOrFails : (Printout → Type 0) → Option (List ℕ) → Option (List ℕ) → ℕ → Type 0
PrintsOrFails Is old new status =
    ((p : Printout) × Is p × Appends old new p.text × (status ≡ p.status))
    ⊎ ((status ≡ 3) × (Keeps old new ⊎ ((p : Printout) × Is p × AppendsPart old new p.text)))

-- ---- what a fault comes of

-- whether there is no file, or it has failed
abbrev pub unread : {I : Type 0} → (I → Bool) → Option I → Bool
unread failed None = true
unread failed (Some file) = failed file

-- a file that can't be read, else an output that has failed, else want of memory
abbrev pub cause : Bool → Bool → Fault
cause true written = fault.Read
cause false true = fault.Write
cause false false = fault.OutOfMemory

-- ---- how the program ends

-- A job's end, by whether its file can't be read and whether its output has failed: a status of the job, where nothing
-- has failed and no more than this is said; or 3, and what has failed is said.
abbrev pub Ends : Type 0 → List ℕ → ℕ → Bool → Bool → Option (List ℕ) → Option (List ℕ) → Bool
    → Type 0
Ends Remarked file status unreadable written old new failed =
    ((status ≤ 1) × (unreadable ≡ false) × (written ≡ false) × Remarked)
    ⊎ ((status ≡ 3) × SaysOrFails old new failed (fault_text file (cause unreadable written)))

-- a text is written, with status 0; or it can't be, with status 3
abbrev pub ShowsHelp : List ℕ → ℕ → Option (List ℕ) → Option (List ℕ) → Bool
    → Option (List ℕ) → Option (List ℕ) → Bool → Type 0
ShowsHelp text status out_old out_new written old new failed =
    ((status ≡ 0) × Appends out_old out_new text × (written ≡ false) × Keeps old new)
    ⊎ ((status ≡ 3) × AppendsPart out_old out_new text
    × SaysOrFails old new failed (fault_text [] (cause false written)))

-- the page of what is told of a refusal is written, with status 0; or it can't be, with status 3
abbrev pub ShowsTold : ℕ → Told → ℕ → Option (List ℕ) → Option (List ℕ) → Bool
    → Option (List ℕ) → Option (List ℕ) → Bool → Type 0
ShowsTold n told status out_old out_new written old new failed =
    ((status ≡ 0) × Appends out_old out_new (printout line_text (told_page n told)).text
    × (written ≡ false) × Keeps old new)
    ⊎ ((status ≡ 3)
    × KeepsOrAppendsPart out_old out_new (printout line_text (told_page n told)).text
    × SaysOrFails old new failed (fault_text [] (cause false written)))

-- Without a job: help is written, and so is what is told of a refusal. A mistake is said, with status 2, and
-- so is want of memory, with 3; the output stays as it was.
abbrev pub EndsWithoutJob : NoJob → ℕ → Option (List ℕ) → Option (List ℕ) → Bool
    → Option (List ℕ) → Option (List ℕ) → Bool → Type 0
EndsWithoutJob (no_job.Shown text) status out_old out_new written old new failed =
    ShowsHelp (string_bytes text) status out_old out_new written old new failed
EndsWithoutJob (no_job.Explained n told) status out_old out_new written old new failed =
    ShowsTold n (explanation_view told) status out_old out_new written old new failed
EndsWithoutJob (no_job.Mistaken text) status out_old out_new written old new failed =
    (status ≡ 2) × Keeps out_old out_new × SaysOrFails old new failed (string_bytes text)
EndsWithoutJob no_job.OutOfMemory status out_old out_new written old new failed =
    (status ≡ 3) × Keeps out_old out_new × SaysOrFails old new failed out_of_memory

-- ---- of the code's ends

-- what a job reads of a file of this text: no more of a file of bytes than shows that it is too long
abbrev pub read_of : Job → List ℕ → List ℕ
read_of (job.Show file form detail layout) text = take (suc (file_limit form)) text
read_of (job.Check file form suite signatures group layout) text =
    take (suc (file_limit form)) text
read_of (job.CheckGroupInfo file form signatures layout) text = take (suc (file_limit form)) text
read_of (job.Draw file form source drawing) text = take (suc (file_limit form)) text
read_of (job.Replay file suite view progress) text = text
read_of (job.DrawMember file suite member drawing progress) text = text
read_of (job.Vectors file) text = text

-- this is what a job reads of all that a reader has left, where that is known
abbrev pub ReadsFile : {I : Type 0} → (I → Option (List ℕ)) → Job → I → List ℕ → Type 0
ReadsFile remaining j reader text =
    IfSome (remaining reader) (λ (all : List ℕ). text ≡ read_of j all)

-- what a job prints of a text is printed
abbrev pub PrintsText : {O : Type 0} → (O → Option (List ℕ)) → Job → List ℕ → O → O
    → Result ℕ Fault → Type 0
PrintsText contents j text old new result =
    PrintsOne (IsPrintout j text) (contents old) (contents new) result

-- what a job prints of all that a reader has left is printed
abbrev pub PrintsRead : {I O : Type 0} → (I → Option (List ℕ)) → (O → Option (List ℕ)) → Job
    → I → O → O → Result ℕ Fault → Type 0
PrintsRead remaining contents j reader old new result =
    IfSome (remaining reader)
    (λ (text : List ℕ). PrintsOne (IsPrintout j text) (contents old) (contents new) result)

-- what a job prints of a file that can be opened is printed, or the status says that it couldn't be
abbrev pub PrintsFile : {I O : Type 0} → (I → Option (List ℕ)) → (O → Option (List ℕ)) → Job
    → Option I → O → O → ℕ → Type 0
PrintsFile {I} {O} remaining contents j file old new status =
    IfSome file (λ (reader : I). IfSome (remaining reader)
    (λ (text : List ℕ). PrintsOrFails (IsPrintout j text) (contents old) (contents new) status))

-- the picture of a member's tree in a recording's text is printed
abbrev pub PrintsPicture : {O : Type 0} → (O → Option (List ℕ)) → SuiteChoice → ℕ → Drawing → List ℕ
    → O → O → Result ℕ Fault → Type 0
PrintsPicture contents suite member drawing text old new result =
    PrintsOne (IsMemberPicture (crypto_of suite) member drawing text)
    (contents old) (contents new) result

-- a view of a recording's text is printed
abbrev pub PrintsRecording : {O : Type 0} → (O → Option (List ℕ)) → SuiteChoice → ReplayView
    → List ℕ → O → O → Result ℕ Fault → Type 0
PrintsRecording contents suite view text old new result =
    PrintsOne (IsView (crypto_of suite) view text) (contents old) (contents new) result

-- a file that can't be read leaves the output as it was
abbrev pub KeepsUnread : {I O : Type 0} → (I → Bool) → (O → Option (List ℕ)) → Option I → O → O
    → Type 0
KeepsUnread failed contents file old new =
    unread failed file ≡ true → Keeps (contents old) (contents new)

-- what is remarked of all that a reader has left, where it ends with this status, is said, and no more
abbrev pub Remarks : {I E : Type 0} → (I → Option (List ℕ)) → (E → Option (List ℕ)) → Request → I
    → ℕ → Out E → Out E → Type 0
Remarks remaining contents r reader status old new =
    (text : List ℕ) × ReadsFile remaining r.job reader text
    × SaysRemark contents (asks_for_place r status) r.job text old new

abbrev pub RemarksOn : {I E : Type 0} → (I → Option (List ℕ)) → (E → Option (List ℕ)) → Request
    → Option I → ℕ → Out E → Out E → Type 0
RemarksOn {I} remaining contents r file status old new =
    IfSome file (λ (reader : I). Remarks remaining contents r reader status old new)

-- a job's end, with what the errors hold
abbrev pub EndsWith : {E : Type 0} → (E → Option (List ℕ)) → Out E → Out E → Type 0 → List ℕ → ℕ
    → Bool → Bool → Type 0
EndsWith contents old new Remarked file status unreadable written =
    Ends Remarked file status unreadable written
    (contents (out_writer old)) (contents (out_writer new)) (out_failed new)

-- ---- what is reported of how far a job is

-- a report behind each event of a replay, and no other
abbrev pub ReportsJob : {P : Type 0} → (P → P → ℕ → ℕ → Type 0) → Job → List ℕ → P → P →
    Result ℕ Fault → Type 0
ReportsJob reports (job.Show file form detail layout) text old new result = new ≡ old
ReportsJob reports (job.Check file form suite signatures group layout) text old new result =
    new ≡ old
ReportsJob reports (job.CheckGroupInfo file form signatures layout) text old new result = new ≡ old
ReportsJob reports (job.Draw file form source drawing) text old new result = new ≡ old
ReportsJob reports (job.Replay file suite view progress) text old new result =
    ReportsFile reports (crypto_of suite) text old new result
ReportsJob reports (job.DrawMember file suite member drawing progress) text old new result =
    ReportsFile reports (crypto_of suite) text old new result
ReportsJob reports (job.Vectors file) text old new result = new ≡ old

-- of all that a reader has left, where nothing failed
abbrev pub ReportsRead : {I P : Type 0} → (I → Option (List ℕ)) → (P → P → ℕ → ℕ → Type 0) → Job →
    I → P → P → ℕ → Type 0
ReportsRead remaining reports j reader old new status =
    (text : List ℕ) × ReadsFile remaining j reader text
    × ReportsJob reports j text old new (Ok status)

-- of a file that can be opened, where nothing failed, as the status says
abbrev pub ReportsOn : {I P : Type 0} → (I → Option (List ℕ)) → (P → P → ℕ → ℕ → Type 0) → Job →
    Option I → P → P → ℕ → Type 0
ReportsOn {I} remaining reports j file old new status =
    status ≤ 1
    → IfSome file (λ (reader : I). ReportsRead remaining reports j reader old new status)
