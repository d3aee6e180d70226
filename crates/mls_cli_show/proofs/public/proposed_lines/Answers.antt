use Rattle.mls_cli_show.proofs.public.proposed_lines.Goals as goal

pub returns : goal.returns
returns c = rw (c.in_ok-lines-2.ensures, c.in_ok-lines.ensures, c.line_of.ensures) at c.append_line.ensures
