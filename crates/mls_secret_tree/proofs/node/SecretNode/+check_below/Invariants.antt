use Rattle.mls_secret_tree.proofs.node.SecretNode.+check_below.Given as goal

abbrev pub decreases-check_below : goal.decreases-check_below
decreases-check_below l = l.height
