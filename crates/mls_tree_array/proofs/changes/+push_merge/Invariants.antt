use Rattle.mls_tree_model.specs.Term.{height}
use Rattle.mls_tree_array.proofs.changes.+push_merge.Given as goal

abbrev pub decreases-push_merge : goal.decreases-push_merge
decreases-push_merge l = height l.tree.now.term
