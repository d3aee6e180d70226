use Rattle.mls_tree_model.specs.Term.{height}
use Rattle.mls_tree_array.proofs.validity.+are_parents_valid.Given as goal

abbrev pub decreases-are_parents_valid : goal.decreases-are_parents_valid
decreases-are_parents_valid l = height l.tree.now.term
