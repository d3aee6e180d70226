use Rattle.mls_cli_show.proofs.public.commit_body_lines.Goals as goal

pub returns : goal.returns
returns c =
    rw (c.in_ok-lines.ensures, c.in_ok-commit_lines.ensures, c.in_ok-end.ensures.items, c.line_of.ensures, c.line_of-2.ensures) at c.with_word_line.ensures
