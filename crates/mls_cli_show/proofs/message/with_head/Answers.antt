use Rattle.mls_cli_show.proofs.message.with_head.Goals as goal

pub returns : goal.returns
returns c = rw (c.in_ok-head.ensures.items, c.line_of.ensures, c.line_of-2.ensures) at c.append_lines.ensures
