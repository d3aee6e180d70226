use Rattle.mls_tree_model.specs.Term.{height}
use Rattle.mls_tree_array.proofs.merging.+path_length.Given as goal

abbrev pub decreases-path_length : goal.decreases-path_length
decreases-path_length l = height l.tree.now.term
