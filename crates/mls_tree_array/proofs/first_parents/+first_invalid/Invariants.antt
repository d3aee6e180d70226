use Rattle.mls_tree_model.specs.Term.{height}
use Rattle.mls_tree_array.proofs.first_parents.+first_invalid.Given as goal

abbrev pub decreases-first_invalid : goal.decreases-first_invalid
decreases-first_invalid l = height l.tree.now.term
