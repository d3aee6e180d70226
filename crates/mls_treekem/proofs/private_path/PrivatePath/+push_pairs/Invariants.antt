use Rattle.mls_treekem.proofs.private_path.PrivatePath.+push_pairs.Given as goal

abbrev pub decreases-push_pairs : goal.decreases-push_pairs
decreases-push_pairs l = l.height
