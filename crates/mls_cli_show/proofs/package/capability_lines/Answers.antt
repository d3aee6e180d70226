use Rattle.std.proofs.Common.{refl}
use Rattle.mls_cli_show.proofs.package.capability_lines.Goals as goal

pub returns : goal.returns
returns c = rw (c.in_ok-vec.ensures.items, c.line_with.ensures, c.line_with-2.ensures, c.line_with-3.ensures, c.line_with-4.ensures, c.line_with-5.ensures, c.in_ok-lists.ensures) refl
