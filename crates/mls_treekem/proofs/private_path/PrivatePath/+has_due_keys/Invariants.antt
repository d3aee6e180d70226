use Rattle.mls_treekem.proofs.private_path.PrivatePath.+has_due_keys.Given as goal

abbrev pub decreases-has_due_keys : goal.decreases-has_due_keys
decreases-has_due_keys l = l.height
