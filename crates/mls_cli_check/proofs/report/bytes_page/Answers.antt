use Rattle.mls_cli_check.proofs.SentTrees.{no_tree}
use Rattle.mls_cli_check.proofs.report.bytes_page.Goals as goal

pub returns-in-Ok-clause-outright : goal.returns-in-Ok-clause-outright
returns-in-Ok-clause-outright g c = λ n h. absurd (no_tree c.args.bytes.now _ n c.in-Ok.ensures.tree h)
