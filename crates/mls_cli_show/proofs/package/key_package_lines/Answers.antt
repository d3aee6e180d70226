use Rattle.mls_cli_show.specs.Package.{key_package_entries}
use Rattle.mls_cli_show.proofs.package.key_package_lines.Goals as goal

pub returns : goal.returns
unfolding key_package_entries
returns c = rw (c.in_ok-lines.ensures, c.in_ok-front_lines.ensures, c.in_ok-leaf.ensures, c.line_with.ensures) at c.append_line.ensures
