use Rattle.mls_treekem.proofs.make.+push_none.Given as goal

abbrev pub decreases-push_none : goal.decreases-push_none
decreases-push_none l = l.count
