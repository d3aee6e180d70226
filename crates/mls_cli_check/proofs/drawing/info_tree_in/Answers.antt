use Rattle.mls_cli_check.proofs.GroupInfos.{no_info}
use Rattle.mls_cli_check.proofs.drawing.info_tree_in.Goals as goal

pub returns-in-Ok-clause-undecoded : goal.returns-in-Ok-clause-undecoded
returns-in-Ok-clause-undecoded c = λ n h. absurd (no_info c.args.bytes.now _ n c.in-Ok.ensures.info h)
