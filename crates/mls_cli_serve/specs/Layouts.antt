-- How a page of lines is printed: as lines, or as one JSON object.
use Rattle.std.specs.Prelude.{◌≡◌, ℕ, List, Option, Result, IfOk}
use Rattle.mls_cli_text.specs.Page.{MakesPage, Page, Printout, Prints, page_of, printout}
use Rattle.mls_cli_text.specs.Text.{Entry, line_text}
use Rattle.mls_cli_text.specs.declared.fault.Fault.{Fault}
use Rattle.mls_cli_text.specs.declared.page.Page as code
use Rattle.mls_cli_text.specs.declared.text.Line.{Line}
use Rattle.mls_cli_json_page.specs.JsonPage.{json_page, object_line, text_of}
use Rattle.mls_cli_json_page.specs.declared.JsonText.{JsonText}
use Rattle.mls_cli_serve.specs.declared.tasks.Layout.{Layout}
use Rattle.mls_cli_serve.specs.declared.tasks.Layout.TheVariants.{Json, Lines}

-- the text that is printed of a page, and the exit status, which is the same in both
abbrev pub lines_printout : Layout → Page Entry → Printout
lines_printout Lines page = printout line_text page
lines_printout Json page = printout object_line (json_page page)

-- ---- of the code's values

-- the JSON object of the page that was made is made, where there was memory for both
abbrev pub MakesObject : {X Y : Type 0} → Result (code.Page Line) X
    → Result (code.Page JsonText) Y → Type 0
MakesObject made result =
    (page : Page Entry) → MakesPage made page
    → IfOk result (λ (p : code.Page JsonText). page_of text_of p ≡ json_page page)

-- the page that was made is printed so
abbrev pub PrintsLines : {X : Type 0} → Layout → Option (List ℕ) → Option (List ℕ)
    → Result (code.Page Line) X → Result ℕ Fault → Type 0
PrintsLines layout old new made result =
    (page : Page Entry) → MakesPage made page → Prints old new result (lines_printout layout page)
