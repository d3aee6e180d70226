use Rattle.mls_tree_model.specs.Term.{height}
use Rattle.mls_tree_array.proofs.changes.+push_enter.Given as goal

abbrev pub decreases-push_enter : goal.decreases-push_enter
decreases-push_enter l = height l.tree.now.term
