use Rattle.mls_cli_draw.proofs.stem.+push_stem_below.Given as goal

abbrev pub decreases-push_stem_below : goal.decreases-push_stem_below
decreases-push_stem_below l = l.leaves
