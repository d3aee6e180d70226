-- A page is printed by its lines, whether these are the code's or what they stand for.
use Rattle.std.proofs.Common.{◌≡◌, ℕ, List, ◌++◌, Option, Result, Ok, Err, IsErr, inl, inr, ap, sym, subst, ◌∙◌}
use Rattle.std.specs.Prelude.{IfOk}
use Rattle.std.specs.declared.alloc.AllocError.{AllocError}
use Rattle.std.specs.Io.KnownBytes.{Appends}
use Rattle.std.proofs.lemmas.List.Folds.{flat_map-map}
use Rattle.mls_cli_text.specs.InputOutput.{AppendsPart}
use Rattle.mls_cli_text.proofs.Pieces.{part_behind, part_of_front}
use Rattle.mls_cli_text.specs.declared.fault.Fault.{Fault}
use Rattle.mls_cli_text.specs.Page.{Page, Printout, Prints, ending_status, ending_text, page_of, printout, printout_of}
use Rattle.mls_cli_text.specs.declared.page.Page as code
use Rattle.mls_cli_text.specs.MadePage.{PrintsMade}

abbrev with_ending : {L : Type 0} → code.Page L → List ℕ → Printout
with_ending p text = record { text = text ++ ending_text p.ending; status = ending_status p.ending }

pub printed_alike : {L E : Type 0} (text : E → List ℕ) (entry_of : L → E) (p : code.Page L)
    → printout text (page_of entry_of p) ≡ printout_of (λ l. text (entry_of l)) p
printed_alike text entry_of p = ap (with_ending p) (flat_map-map text entry_of p.lines.items)

-- where a page's lines, or what stands behind them, are not written whole, the page is cut
pub cut_lines : (r : Result ℕ Fault) (a b : Option (List ℕ)) (lines : List ℕ) (p : Printout) (more : List ℕ)
    → p.text ≡ lines ++ more → IsErr r → AppendsPart a b lines → Prints a b r p
cut_lines (Ok x) a b lines p more e err part = cc
cut_lines (Err x) a b lines p more e err part = inr (rw e (part_of_front a b lines more part))

pub cut_ending : (r : Result ℕ Fault) (a b c : Option (List ℕ)) (lines : List ℕ) (p : Printout) (more : List ℕ)
    → p.text ≡ lines ++ more → IsErr r → Appends a b lines → AppendsPart b c more → Prints a c r p
cut_ending (Ok x) a b c lines p more e err whole part = cc
cut_ending (Err x) a b c lines p more e err whole part = inr (rw e (part_behind a b c lines more whole part))

-- it is the page that it stands for
pub made_prints : {L E : Type 0} (text : E → List ℕ) (entry_of : L → E) (a b : Option (List ℕ)) (made : Result (code.Page L) AllocError) (r : Result ℕ Fault) (page : Page E)
    → IfOk made (λ p. page_of entry_of p ≡ page) → PrintsMade (λ l. text (entry_of l)) a b made r → Prints a b r (printout text page)
made_prints text entry_of a b (Ok p) r page is prints =
    subst (Prints a b r) (sym (printed_alike text entry_of p) ∙ ap (printout text) is) prints
made_prints text entry_of a b (Err e) r page is prints =
    subst (λ r. Prints a b r (printout text page)) (sym prints.0) (inl prints.1)
