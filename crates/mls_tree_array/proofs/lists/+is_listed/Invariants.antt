use Rattle.mls_tree_model.specs.Term.{height}
use Rattle.mls_tree_array.proofs.lists.+is_listed.Given as goal

abbrev pub decreases-is_listed : goal.decreases-is_listed
decreases-is_listed l = height l.tree.now.term
