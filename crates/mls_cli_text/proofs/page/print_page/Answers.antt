use Rattle.std.proofs.Common.{◌++◌, ap, sym}
use Rattle.std.specs.List.{flat_map}
use Rattle.mls_cli_text.specs.Page.{ending_text, printout_of}
use Rattle.mls_cli_text.proofs.Pages.{cut_ending, cut_lines}
use Rattle.mls_cli_text.proofs.page.print_page.Goals as goal

pub returns-in_err-print_lines-clause-prints : goal.returns-in_err-print_lines-clause-prints
returns-in_err-print_lines-clause-prints g c =
    cut_lines c.from_residual.result _ _ (flat_map g.L.Printed.text c.as_slice.result.now) (printout_of g.L.Printed.text c.args.page.now)
    (ending_text c.args.page.now.ending) (ap (λ lines. flat_map g.L.Printed.text lines ++ ending_text c.args.page.now.ending) (sym c.as_slice.ensures.value))
    c.from_residual.ensures.0 c.in_err-print_lines.ensures.part

pub returns-in_err-print_ending-clause-prints : goal.returns-in_err-print_ending-clause-prints
returns-in_err-print_ending-clause-prints g c =
    cut_ending c.from_residual-in_err-print_ending.result _ (g.O.Output.contents c.print_lines.new.out) _ (flat_map g.L.Printed.text c.as_slice.result.now) (printout_of g.L.Printed.text c.args.page.now)
    (ending_text c.args.page.now.ending) (ap (λ lines. flat_map g.L.Printed.text lines ++ ending_text c.args.page.now.ending) (sym c.as_slice.ensures.value))
    c.from_residual-in_err-print_ending.ensures.0 c.in_ok-print_lines.ensures.whole c.in_err-print_ending.ensures.part
