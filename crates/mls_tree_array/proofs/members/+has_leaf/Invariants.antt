use Rattle.mls_tree_array.proofs.members.+has_leaf.Given as goal

abbrev pub decreases-has_leaf : goal.decreases-has_leaf
decreases-has_leaf l = l.height
