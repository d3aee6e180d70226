use Rattle.mls_tree_model.specs.Term.{height}
use Rattle.mls_tree_array.proofs.resolutions.+is_reached.Given as goal

abbrev pub decreases-is_reached : goal.decreases-is_reached
decreases-is_reached l = height l.tree.now.term
