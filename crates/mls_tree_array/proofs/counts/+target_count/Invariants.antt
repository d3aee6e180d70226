use Rattle.mls_tree_model.specs.Term.{height}
use Rattle.mls_tree_array.proofs.counts.+target_count.Given as goal

abbrev pub decreases-target_count : goal.decreases-target_count
decreases-target_count l = height l.tree.now.term
