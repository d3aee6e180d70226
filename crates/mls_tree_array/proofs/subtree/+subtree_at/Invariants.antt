use Rattle.mls_tree_model.specs.Term.{height}
use Rattle.mls_tree_array.proofs.subtree.+subtree_at.Given as goal

abbrev pub decreases-subtree_at : goal.decreases-subtree_at
decreases-subtree_at l = height l.tree.now.term
