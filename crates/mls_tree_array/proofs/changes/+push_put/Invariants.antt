use Rattle.mls_tree_model.specs.Term.{height}
use Rattle.mls_tree_array.proofs.changes.+push_put.Given as goal

abbrev pub decreases-push_put : goal.decreases-push_put
decreases-push_put l = height l.tree.now.term
