-- No line of a report is empty.
use Rattle.std.proofs.Common.{◌<◌, ◌++◌, ◌∷◌, [], ℕ, List, codes, length, arith, length-append}
use Rattle.std.specs.Fmt.{decimal}
use Rattle.mls_cli_text.specs.TextLaws.{NoneIsEmpty}
use Rattle.mls_cli_vectors.specs.VectorsReport.{entry_of, entry_text, verdict_word}
use Rattle.mls_cli_vectors.specs.declared.report.ReportLine.{ReportLine}
use Rattle.mls_cli_vectors.specs.declared.report.ReportLine.TheVariants.{Verdict, Total}

longer : (front : List ℕ) → 0 < length (front ++ 10 ∷ [])
longer front = omega (arith, length-append front (10 ∷ []))

pub report_line_nonempty : NoneIsEmpty (λ (line : ReportLine). entry_text (entry_of line))
report_line_nonempty (Verdict index passed) = longer ((decimal index ++ codes ": ") ++ verdict_word passed)
report_line_nonempty (Total passed all) = longer (((codes "passed " ++ decimal passed) ++ codes " of ") ++ decimal all)
