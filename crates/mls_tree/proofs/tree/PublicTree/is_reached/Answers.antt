use Rattle.mls_tree.proofs.tree.PublicTree.is_reached.Goals as goal

pub returns : goal.returns
returns c = rw c.subtree.ensures at c.is_reached_at.ensures
