use Rattle.mls_tree_model.specs.Term.{height}
use Rattle.mls_tree_array.proofs.way_hashes.+merged_hashes.Given as goal

abbrev pub decreases-merged_hashes : goal.decreases-merged_hashes
decreases-merged_hashes l = height l.tree.now.term
