-- What `mls vectors` prints.
use Rattle.std.specs.Prelude.{◌==◌, ◌+◌, ℕ, Bool, true, false, List, [], ◌∷◌, ◌++◌, codes, length, map, count_by, if◌then◌else◌, Result, Ok, Err}
use Rattle.std.specs.Fmt.{decimal}
use Rattle.mls_cli_text.specs.Page.{Page, refused}
use Rattle.mls_cli_text.specs.declared.page.Ending.{Ending}
use Rattle.mls_cli_text.specs.declared.page.Ending.TheVariants.{Good, Failed}
use Rattle.mls_cli_vectors.specs.Vectors.{Claim}
use Rattle.mls_cli_vectors.specs.VectorsFile.{claims_in}
use Rattle.mls_cli_vectors.specs.VectorsPassing.{passes}
use Rattle.mls_cli_vectors.specs.declared.report.ReportLine.{ReportLine}
use Rattle.mls_cli_vectors.specs.declared.report.ReportLine.TheVariants as code

-- a line: whether the vector with this number passed, or how many passed of how many
pub data ReportEntry : Type 0 where
  verdict : ℕ → Bool → ReportEntry
  total : ℕ → ℕ → ReportEntry

abbrev pub entry_of : ReportLine → ReportEntry
entry_of (code.Verdict index passed) = verdict index passed
entry_of (code.Total passed all) = total passed all

abbrev pub verdict_word : Bool → List ℕ
verdict_word true = codes "pass"
verdict_word false = codes "fail"

abbrev pub entry_text : ReportEntry → List ℕ
entry_text (verdict index passed) = ((decimal index ++ codes ": ") ++ verdict_word passed) ++ 10 ∷ []
entry_text (total passed all) = (((codes "passed " ++ decimal passed) ++ codes " of ") ++ decimal all) ++ 10 ∷ []

-- a line for each verdict, numbered from here on
unfoldable pub verdict_entries : ℕ → List Bool → List ReportEntry
verdict_entries index [] = []
verdict_entries index (passed ∷ verdicts) = verdict index passed ∷ verdict_entries (index + 1) verdicts

-- how many passed
abbrev pub passed_count : List Bool → ℕ
passed_count verdicts = count_by (λ passed. passed) verdicts

-- the line at the end
abbrev pub total_entry : List Bool → ReportEntry
total_entry verdicts = total (passed_count verdicts) (length verdicts)

abbrev pub report_entries : List Bool → List ReportEntry
report_entries verdicts = verdict_entries 0 verdicts ++ total_entry verdicts ∷ []

-- good where all passed
abbrev pub report_ending : List Bool → Ending
report_ending verdicts = if passed_count verdicts == length verdicts then Good else Failed

unfoldable pub report_page : List Bool → Page ReportEntry
report_page verdicts = record { entries = report_entries verdicts; ending = report_ending verdicts }

-- the report on claims, or their refusal
abbrev pub page_on : Result (List Claim) ℕ → Page ReportEntry
page_on (Ok claims) = report_page (map passes claims)
page_on (Err n) = refused n

-- what is printed for a file
unfoldable pub vectors_page : List ℕ → Page ReportEntry
vectors_page file = page_on (claims_in file)
