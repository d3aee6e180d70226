use Rattle.mls_cli_text.proofs.Pages.{made_prints}
use Rattle.mls_cli_draw.specs.Picture.{characters_of, row_text}
use Rattle.mls_cli_serve.proofs.printing.print_drawing.Goals as goal

pub returns-clause-prints : goal.returns-clause-prints
returns-clause-prints g c =
    made_prints row_text characters_of _ _ c.drawing_file-page.result _ _ c.drawing_file-page.ensures c.print_made_page.ensures.prints
