use Rattle.mls_cli_text.proofs.Pieces.{nothing_yet}
use Rattle.mls_cli_text.proofs.printing.print.Goals as goal

pub returns-in_err-bytes-clause-part : goal.returns-in_err-bytes-clause-part
returns-in_err-bytes-clause-part g c =
    nothing_yet c.from_residual.result (g.O.Output.contents c.args.out.now) (g.T.Printed.text c.args.printed.now) (g.T.Printed.nonempty c.args.printed.now)
