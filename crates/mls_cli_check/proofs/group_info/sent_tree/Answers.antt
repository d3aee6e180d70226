use Rattle.mls_cli_check.proofs.InfoLengths.{short_parts}
use Rattle.mls_cli_check.proofs.group_info.sent_tree.Goals as goal

pub tree_of-requires : goal.tree_of-requires
tree_of-requires c = (short_parts c.args.info.now c.requires).nodes c.in-Some.nodes c.in-Some.is
