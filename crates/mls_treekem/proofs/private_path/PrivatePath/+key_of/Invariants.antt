use Rattle.mls_treekem.proofs.private_path.PrivatePath.+key_of.Given as goal

abbrev pub decreases-key_of : goal.decreases-key_of
decreases-key_of l = l.height
