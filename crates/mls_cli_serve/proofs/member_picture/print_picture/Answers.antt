use Rattle.mls_cli_text.proofs.Pages.{made_prints}
use Rattle.mls_cli_draw.specs.Picture.{characters_of, row_text}
use Rattle.mls_cli_replay.proofs.PrintLaws.{prints_it}
use Rattle.mls_cli_serve.proofs.MemberPicture.{tree_is}
use Rattle.mls_cli_serve.proofs.member_picture.print_picture.Goals as goal

pub returns-clause-prints : goal.returns-clause-prints
returns-clause-prints g c =
    prints_it _ _ _ _ _ (tree_is c.args.drawing c.args.status c.args.printed.now c.if-status-ne0.false)
    (made_prints row_text characters_of _ _ c.draw_page-page.result _ _ c.draw_page-page.ensures.page c.print_made_page.ensures.prints)
