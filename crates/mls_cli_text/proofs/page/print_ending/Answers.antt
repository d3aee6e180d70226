use Rattle.mls_cli_text.proofs.page.print_ending.Goals as goal

pub returns-in-Refused-clause-part : goal.returns-in-Refused-clause-part
returns-in-Refused-clause-part g c =
    let part = rw c.line_of-line.ensures at c.print.ensures.part in
    rw c.in-Refused.is part
