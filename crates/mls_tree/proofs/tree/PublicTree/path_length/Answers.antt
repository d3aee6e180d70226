use Rattle.mls_tree.proofs.tree.PublicTree.path_length.Goals as goal

pub returns : goal.returns
returns c = rw c.subtree.ensures at c.path_length.ensures.value
