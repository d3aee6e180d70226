use Rattle.mls_cli_draw.proofs.svg.+height.Given as goal

abbrev pub decreases-height : goal.decreases-height
decreases-height l = l.leaves
