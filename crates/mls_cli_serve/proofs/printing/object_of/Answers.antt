use Rattle.std.proofs.Common.{subst}
use Rattle.std.specs.Prelude.{◌≡◌, IfOk}
use Rattle.mls_cli_text.specs.Page.{Page, page_of}
use Rattle.mls_cli_text.specs.Text.{Entry}
use Rattle.mls_cli_text.specs.declared.page.Page as code
use Rattle.mls_cli_json_page.specs.JsonPage.{json_page, text_of}
use Rattle.mls_cli_json_page.specs.declared.JsonText.{JsonText}
use Rattle.mls_cli_serve.proofs.printing.object_of.Goals as goal

pub returns-in-Ok : goal.returns-in-Ok
returns-in-Ok c = rw c.in-Ok.is (λ page is.
    subst (λ (own : Page Entry). IfOk c.json_page.result (λ (p : code.Page JsonText). page_of text_of p ≡ json_page own)) is c.json_page.ensures)

pub returns-in-Err : goal.returns-in-Err
returns-in-Err c = λ page is. tt
