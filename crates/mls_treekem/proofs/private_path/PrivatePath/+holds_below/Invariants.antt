use Rattle.mls_treekem.proofs.private_path.PrivatePath.+holds_below.Given as goal

abbrev pub decreases-holds_below : goal.decreases-holds_below
decreases-holds_below g l = l.height
