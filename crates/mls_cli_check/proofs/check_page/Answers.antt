use Rattle.std.proofs.Common.{rules}
use Rattle.mls_cli_check.proofs.Texts.{refused_texts}
use Rattle.mls_cli_check.proofs.check_page.Goals as goal

pub returns-in-Err-clause-page : goal.returns-in-Err-clause-page
returns-in-Err-clause-page g c = rw (refused_texts g.S.Suite.crypto c.args.form c.args.text.now c.args.group.now _ c.in-Err.ensures) (search rules)
