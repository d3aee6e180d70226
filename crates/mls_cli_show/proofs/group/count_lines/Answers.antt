use Rattle.std.proofs.Common.{refl}
use Rattle.mls_cli_show.proofs.group.count_lines.Goals as goal

pub returns : goal.returns
returns c = rw (c.in_ok-vec.ensures.items, c.line_of.ensures, c.count_field.ensures) refl
