use Rattle.mls_tree_model.specs.Term.{height}
use Rattle.mls_tree_array.proofs.originals.+rehashed_original.Given as goal

abbrev pub decreases-rehashed_original : goal.decreases-rehashed_original
decreases-rehashed_original l = height l.tree.now.term
