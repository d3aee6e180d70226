use Rattle.mls_tree_array.proofs.way_hashes.+keep_hashes.Given as goal

abbrev pub decreases-keep_hashes : goal.decreases-keep_hashes
decreases-keep_hashes l = l.height
