use Rattle.mls_tree_model.specs.Term.{height}
use Rattle.mls_tree_array.proofs.merging.+path_hash.Given as goal

abbrev pub decreases-path_hash : goal.decreases-path_hash
decreases-path_hash l = height l.tree.now.term
