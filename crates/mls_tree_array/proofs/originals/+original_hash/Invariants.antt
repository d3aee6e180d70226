use Rattle.mls_tree_model.specs.Term.{height}
use Rattle.mls_tree_array.proofs.originals.+original_hash.Given as goal

abbrev pub decreases-original_hash : goal.decreases-original_hash
decreases-original_hash l = height l.tree.now.term
