use Rattle.mls_tree_array.proofs.chains.chain.Goals as goal

pub returns : goal.returns
returns c = rw (c.from.ensures, c.number.ensures, c.new-nodes.ensures.items) at c.in_ok-push_chain.ensures
