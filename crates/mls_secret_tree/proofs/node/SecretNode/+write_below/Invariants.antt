use Rattle.mls_secret_tree.proofs.node.SecretNode.+write_below.Given as goal

abbrev pub decreases-write_below : goal.decreases-write_below
decreases-write_below l = l.height
