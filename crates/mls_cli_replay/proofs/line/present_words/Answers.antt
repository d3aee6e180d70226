use Rattle.mls_cli_replay.proofs.line.present_words.Goals as goal

pub returns : goal.returns
returns c = rw (c.in_ok-tree.ensures, c.in_ok-authenticator.ensures) at c.format.ensures.ok
