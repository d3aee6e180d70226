use Rattle.mls_cli_check.proofs.GroupInfos.{no_info}
use Rattle.mls_cli_check.proofs.group_info.group_info_text.Goals as goal

pub returns-in-Ok-clause-outright : goal.returns-in-Ok-clause-outright
returns-in-Ok-clause-outright g c = λ n h. absurd (no_info c.args.bytes.now _ n c.in-Ok.ensures.info h)
