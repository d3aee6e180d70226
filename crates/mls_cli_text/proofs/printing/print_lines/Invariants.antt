use Rattle.std.proofs.Common.{take, ◌≡◌}
use Rattle.std.specs.List.{flat_map}
use Rattle.std.specs.Io.KnownBytes.{Appends}
use Rattle.mls_cli_text.proofs.printing.print_lines.Given as goal

abbrev pub invariant-loop-line : goal.invariant-loop-line
invariant-loop-line g l = record {
  kept : g.O.Output.failed l.out ≡ g.O.Output.failed l.initial.out;
  grown : Appends (g.O.Output.contents l.initial.out) (g.O.Output.contents l.out) (flat_map g.T.Printed.text (take l.line-index l.lines));
}
