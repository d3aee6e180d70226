use Rattle.mls_tree_model.specs.Term.{height}
use Rattle.mls_tree_array.proofs.members.+member_count.Given as goal

abbrev pub decreases-member_count : goal.decreases-member_count
decreases-member_count l = height l.tree.now.term
