use Rattle.std.proofs.Common.{refl}
use Rattle.mls_cli_show.proofs.commit.path_part.Goals as goal

pub returns-in-Brief : goal.returns-in-Brief
returns-in-Brief c = rw (c.in-Brief.is, c.in_ok-lines.ensures.items, c.line_of-count.ensures, c.count_field.ensures, c.path_count.ensures) refl
