use Rattle.mls_tree_model.specs.Term.{height}
use Rattle.mls_tree_array.proofs.path.+filtered_path.Given as goal

abbrev pub decreases-filtered_path : goal.decreases-filtered_path
decreases-filtered_path l = height l.tree.now.term
