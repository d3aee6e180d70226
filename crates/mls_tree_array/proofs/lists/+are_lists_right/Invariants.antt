use Rattle.mls_tree_model.specs.Term.{height}
use Rattle.mls_tree_array.proofs.lists.+are_lists_right.Given as goal

abbrev pub decreases-are_lists_right : goal.decreases-are_lists_right
decreases-are_lists_right l = height l.tree.now.term
