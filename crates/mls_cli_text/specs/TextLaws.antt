-- No text is empty.
use Rattle.std.proofs.Common.{◌<◌, ◌++◌, ℕ, List, codes, length, arith, length-append}
use Rattle.mls_cli_text.specs.Text.{entry_of, line_text, shown_text}
use Rattle.mls_cli_text.specs.declared.text.Line.{Line}

abbrev pub NoneIsEmpty : {T : Type 0} → (T → List ℕ) → Type 0
NoneIsEmpty {T} text = (x : T) → 0 < length (text x)

longer : (front : List ℕ) → 0 < length (front ++ codes "\n")
longer front = omega (arith, length-append front (codes "\n"))

pub line_nonempty : (l : Line) → 0 < length (line_text (entry_of l))
line_nonempty l = longer (((entry_of l).name ++ codes ": ") ++ shown_text (entry_of l).shown)
