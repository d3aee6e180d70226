use Rattle.mls_cli_place.proofs.Short.{read_nodes}
use Rattle.mls_cli_place.proofs.sent.nodes_in.Goals as goal

pub returns-in-Ok-clause-short : goal.returns-in-Ok-clause-short
returns-in-Ok-clause-short c = read_nodes c.args.bytes.now c.in-Ok.nodes c.in-Ok.ensures.found c.in-Ok.ensures.exact
