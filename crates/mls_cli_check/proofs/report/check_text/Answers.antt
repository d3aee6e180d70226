use Rattle.std.proofs.Common.{arith}
use Rattle.mls_cli_check.proofs.GoodTrees.{good_or_refused}
use Rattle.mls_cli_check.proofs.report.check_text.Goals as goal

pub returns-clause-good : goal.returns-clause-good
returns-clause-good g c =
    good_or_refused g.S.Suite.crypto c.args.group_id.now c.args.bytes.now c.bytes_page.result (λ i. omega (arith, c.type_inv.bytes i)) c.bytes_page.ensures.page
