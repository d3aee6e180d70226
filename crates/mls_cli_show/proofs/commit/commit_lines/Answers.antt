use Rattle.mls_cli_show.specs.Commit.{commit_entries}
use Rattle.mls_cli_show.proofs.commit.commit_lines.Goals as goal

pub returns : goal.returns
unfolding commit_entries
returns c =
    rw (c.in_ok-lines-2.ensures, c.in_ok-lines.ensures.items, c.line_of.ensures, c.in_ok-items.ensures, c.in_ok-path_part.ensures, c.as_slice.ensures, c.as_slice-2.ensures) at c.append_lines-2.ensures
