use Rattle.mls_cli_place.specs.TreeFinding.{parent_node_finds}
use Rattle.mls_cli_place.proofs.Items.{passed_walk}
use Rattle.mls_cli_place.proofs.tree.ParentNodeLocated.locate.Goals as goal

pub returns-in-Ok : goal.returns-in-Ok
returns-in-Ok c = passed_walk parent_node_finds c.args.reader.now c.check.new.reader c.in-Ok.ensures
