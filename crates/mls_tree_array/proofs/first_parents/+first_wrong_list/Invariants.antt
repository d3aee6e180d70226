use Rattle.mls_tree_model.specs.Term.{height}
use Rattle.mls_tree_array.proofs.first_parents.+first_wrong_list.Given as goal

abbrev pub decreases-first_wrong_list : goal.decreases-first_wrong_list
decreases-first_wrong_list l = height l.tree.now.term
