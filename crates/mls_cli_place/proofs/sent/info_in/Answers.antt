use Rattle.mls_cli_place.proofs.Short.{read_info}
use Rattle.mls_cli_place.proofs.sent.info_in.Goals as goal

pub returns-in-Ok-GroupInfo-clause-short : goal.returns-in-Ok-GroupInfo-clause-short
returns-in-Ok-GroupInfo-clause-short c =
    read_info c.args.bytes.now c.in-Ok-GroupInfo.field-0 c.in-Ok-GroupInfo.info c.in-Ok-GroupInfo.field-0-is c.in-Ok-GroupInfo.ensures.found c.in-Ok-GroupInfo.ensures.exact
