use Rattle.mls_tree.proofs.tree.PublicTree.resolution.Goals as goal

pub returns : goal.returns
returns c = rw (c.subtree.ensures, c.new-nodes.ensures.items) at c.in_ok-resolution_at.ensures
