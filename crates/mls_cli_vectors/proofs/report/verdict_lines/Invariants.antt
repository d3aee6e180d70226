use Rattle.std.proofs.Common.{◌≡◌, ◌++◌, map, drop, length}
use Rattle.mls_cli_vectors.specs.VectorsReport.{entry_of, verdict_entries}
use Rattle.mls_cli_vectors.proofs.report.verdict_lines.Given as goal

abbrev pub invariant-loop-passed : goal.invariant-loop-passed
invariant-loop-passed l =
    (length l.lines.items ≡ l.passed-index)
    × (map entry_of l.lines.items ++ verdict_entries l.passed-index (drop l.passed-index l.verdicts) ≡ verdict_entries 0 l.verdicts)
