use Rattle.mls_secret_tree.proofs.node.SecretNode.+read_below.Given as goal

abbrev pub decreases-read_below : goal.decreases-read_below
decreases-read_below l = l.height
