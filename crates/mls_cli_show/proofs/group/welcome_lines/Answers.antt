use Rattle.mls_cli_show.specs.Group.{welcome_entries}
use Rattle.mls_cli_show.proofs.group.welcome_lines.Goals as goal

pub returns : goal.returns
unfolding welcome_entries
returns c =
    rw (c.in_ok-lines-2.ensures, c.in_ok-lines.ensures, c.in_ok-member_lines.ensures, c.in_ok-more-2.ensures, c.in_ok-more.ensures, c.line_of.ensures, c.as_slice-secrets.ensures, c.as_slice-sealed.ensures) at c.append_lines-2.ensures
