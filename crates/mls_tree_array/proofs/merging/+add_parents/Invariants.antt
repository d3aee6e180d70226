use Rattle.mls_tree_model.specs.Term.{height}
use Rattle.mls_tree_array.proofs.merging.+add_parents.Given as goal

abbrev pub decreases-add_parents : goal.decreases-add_parents
decreases-add_parents l = height l.tree.now.term
