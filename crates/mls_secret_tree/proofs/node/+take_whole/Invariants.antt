use Rattle.mls_secret_tree.proofs.node.+take_whole.Given as goal

abbrev pub decreases-take_whole : goal.decreases-take_whole
decreases-take_whole l = l.level
