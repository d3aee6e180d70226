use Rattle.mls_cli_replay.proofs.print_refusal.Goals as goal

pub returns-clause-prints : goal.returns-clause-prints
returns-clause-prints g c = rw (c.refused_page-page.ensures.0, c.refused_page-page.ensures.1) at c.print_page.ensures.prints
