use Rattle.std.proofs.Common.{refl}
use Rattle.mls_cli_show.proofs.group.signer_lines.Goals as goal

pub returns : goal.returns
returns c = rw (c.in_ok-vec.ensures.items, c.line_of.ensures, c.line_of-2.ensures, c.line_of-3.ensures, c.from.ensures) refl
