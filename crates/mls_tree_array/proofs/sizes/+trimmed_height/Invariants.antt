use Rattle.mls_tree_model.specs.Term.{height}
use Rattle.mls_tree_array.proofs.sizes.+trimmed_height.Given as goal

abbrev pub decreases-trimmed_height : goal.decreases-trimmed_height
decreases-trimmed_height l = height l.tree.now.term
