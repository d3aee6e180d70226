use Rattle.mls_cli_text.proofs.Pages.{made_prints}
use Rattle.mls_cli_text.specs.Text.{entry_of, line_text}
use Rattle.mls_cli_json_page.specs.JsonPage.{json_page, object_line, text_of}
use Rattle.mls_cli_serve.proofs.printing.print_in_layout.Goals as goal

pub returns-in-Lines-clause-prints : goal.returns-in-Lines-clause-prints
returns-in-Lines-clause-prints g c =
    rw c.in-Lines.is (λ page is. made_prints line_text entry_of _ _ c.args.made _ page is c.print_made_page.ensures.prints)

pub returns-in-Json-clause-prints : goal.returns-in-Json-clause-prints
returns-in-Json-clause-prints g c =
    rw c.in-Json.is (λ page is.
    made_prints object_line text_of _ _ c.object_of.result _ (json_page page) (c.object_of.ensures page is)
    c.print_made_page-in-Json.ensures.prints)
