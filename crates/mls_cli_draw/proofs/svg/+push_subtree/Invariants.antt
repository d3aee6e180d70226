use Rattle.mls_cli_draw.proofs.svg.+push_subtree.Given as goal

abbrev pub decreases-push_subtree : goal.decreases-push_subtree
decreases-push_subtree l = l.subtree.leaves
