use Rattle.mls_tree_array.proofs.hashes.+fill_hashes.Given as goal

abbrev pub decreases-fill_hashes : goal.decreases-fill_hashes
decreases-fill_hashes l = l.height
