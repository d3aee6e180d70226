use Rattle.mls_cli_show.specs.Package.{leaf_entries}
use Rattle.mls_cli_show.proofs.package.leaf_lines.Goals as goal

pub returns : goal.returns
unfolding leaf_entries
returns c =
    rw (c.in_ok-lines-3.ensures, c.in_ok-lines-2.ensures, c.in_ok-lines.ensures, c.in_ok-capability_lines.ensures, c.in_ok-source_lines.ensures, c.line_with.ensures) at c.append_line.ensures
