use Rattle.mls_cli_show.proofs.public.with_word_line.Goals as goal

pub returns : goal.returns
returns c = rw (c.in_ok-front.ensures.items, c.line_of.ensures) at c.append_lines.ensures
