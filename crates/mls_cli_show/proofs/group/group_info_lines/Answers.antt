use Rattle.mls_cli_show.specs.Group.{group_info_entries}
use Rattle.mls_cli_show.proofs.group.group_info_lines.Goals as goal

pub returns : goal.returns
unfolding group_info_entries
returns c =
    rw (c.in_ok-context_lines.ensures, c.in_ok-rest-2.ensures, c.in_ok-count_lines.ensures, c.in_ok-rest.ensures, c.in_ok-nodes.ensures, c.in_ok-signer_lines.ensures, c.tree_count.ensures) at c.append_lines-3.ensures
