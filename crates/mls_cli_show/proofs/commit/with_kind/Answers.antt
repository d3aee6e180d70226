use Rattle.mls_cli_show.proofs.commit.with_kind.Goals as goal

pub returns : goal.returns
returns c = rw (c.in_ok-front.ensures.items, c.line_with.ensures) at c.append_lines.ensures
