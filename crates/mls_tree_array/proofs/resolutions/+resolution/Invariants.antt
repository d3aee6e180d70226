use Rattle.mls_tree_model.specs.Term.{height}
use Rattle.mls_tree_array.proofs.resolutions.+resolution.Given as goal

abbrev pub decreases-resolution : goal.decreases-resolution
decreases-resolution l = height l.tree.now.term
