use Rattle.mls_tree.proofs.way.+write_numbers.Given as goal

abbrev pub decreases-write_numbers : goal.decreases-write_numbers
decreases-write_numbers l = l.height
