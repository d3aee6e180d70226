use Rattle.mls_tree_model.specs.Term.{height}
use Rattle.mls_tree_array.proofs.members.+end_of_members.Given as goal

abbrev pub decreases-end_of_members : goal.decreases-end_of_members
decreases-end_of_members l = height l.tree.now.term
