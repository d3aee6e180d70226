use Rattle.mls_tree_model.specs.Term.{height}
use Rattle.mls_tree_array.proofs.counts.+ciphertext_counts.Given as goal

abbrev pub decreases-ciphertext_counts : goal.decreases-ciphertext_counts
decreases-ciphertext_counts l = height l.tree.now.term
