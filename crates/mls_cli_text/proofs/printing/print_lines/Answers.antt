use Rattle.std.proofs.Common.{arith}
use Rattle.mls_cli_text.proofs.Pieces.{part_of_texts}
use Rattle.mls_cli_text.proofs.printing.print_lines.Goals as goal

pub returns-in_err-print-clause-part : goal.returns-in_err-print-clause-part
returns-in_err-print-clause-part g c =
    part_of_texts g.T.Printed.text c.from_residual.result _ _ _ c.args.lines.now c.loop-line.line-index c.line-item.result (omega arith) c.line-item.is c.loop-line.invariant.grown c.in_err-print.ensures.part
