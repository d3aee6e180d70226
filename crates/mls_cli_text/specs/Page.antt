-- A page: what a subcommand prints of a file, and its exit status.
use Rattle.std.specs.Prelude.{◌≡◌, ℕ, List, [], ◌++◌, codes, map, Option, Result, Ok, Err, IfOk, MatchResult}
use Rattle.std.specs.List.{flat_map}
use Rattle.std.specs.Io.KnownBytes.{Appends}
use Rattle.mls_cli_text.specs.InputOutput.{KeepsOrAppendsPart}
use Rattle.mls_cli_text.specs.Text.{Entry, entry, entry_of, line_text, refusal}
use Rattle.mls_cli_text.specs.declared.text.Line.{Line}
use Rattle.mls_cli_text.specs.declared.fault.Fault.{Fault}
use Rattle.mls_cli_text.specs.declared.page.Ending.{Ending}
use Rattle.mls_cli_text.specs.declared.page.Ending.TheVariants.{Good, Failed, Refused}
use Rattle.mls_cli_text.specs.declared.page.Page as code

-- its lines, and how it ends
pub record Page (E : Type 0) : Type 0 where
  pub entries : List E
  pub ending : Ending

-- good lines, and the page of a refusal alone
abbrev pub good : {E : Type 0} → List E → Page E
good entries = record { entries = entries; ending = Good }

abbrev pub refused : {E : Type 0} → ℕ → Page E
refused n = record { entries = []; ending = Refused n }

abbrev pub page_on : {E : Type 0} → Result (List E) ℕ → Page E
page_on (Ok entries) = good entries
page_on (Err n) = refused n

-- ---- as it is printed

-- a refusal has a line of its own behind the others
abbrev pub refused_entry : ℕ → Entry
refused_entry n = entry [] (codes "refused") (refusal n)

abbrev pub ending_text : Ending → List ℕ
ending_text Good = []
ending_text Failed = []
ending_text (Refused n) = line_text (refused_entry n)

abbrev pub ending_status : Ending → ℕ
ending_status Good = 0
ending_status Failed = 1
ending_status (Refused n) = 1

-- the text that is printed, and the exit status
pub record Printout : Type 0 where
  pub text : List ℕ
  pub status : ℕ

abbrev pub printout : {E : Type 0} → (E → List ℕ) → Page E → Printout
printout text page = record {
  text = flat_map text page.entries ++ ending_text page.ending;
  status = ending_status page.ending;
}

-- the output grows by the text, and the answer is its status; on a fault it grows by less than the text
abbrev pub Prints : Option (List ℕ) → Option (List ℕ) → Result ℕ Fault → Printout → Type 0
Prints old new r p = MatchResult r
    (λ status. Appends old new p.text × (status ≡ p.status))
    (λ _. KeepsOrAppendsPart old new p.text)

-- ---- of the code's value

abbrev pub page_of : {L E : Type 0} → (L → E) → code.Page L → Page E
page_of entry_of p = record { entries = map entry_of p.lines.items; ending = p.ending }

abbrev pub printout_of : {L : Type 0} → (L → List ℕ) → code.Page L → Printout
printout_of text p = record {
  text = flat_map text p.lines.items ++ ending_text p.ending;
  status = ending_status p.ending;
}

-- Where there is memory for it, this page of lines is made.
abbrev pub MakesPage : {X : Type 0} → Result (code.Page Line) X → Page Entry → Type 0
MakesPage result page = IfOk result (λ (p : code.Page Line). page_of entry_of p ≡ page)

-- a page is printed
abbrev pub PrintsPage : {L : Type 0} → (L → List ℕ) → Option (List ℕ) → Option (List ℕ) → code.Page L → Result ℕ Fault → Type 0
PrintsPage text old new p r = Prints old new r (printout_of text p)
