use Rattle.mls_tree.proofs.tree.PublicTree.member_count.Goals as goal

pub returns : goal.returns
returns c = rw c.subtree.ensures at (c.member_count.ensures.count 0)
