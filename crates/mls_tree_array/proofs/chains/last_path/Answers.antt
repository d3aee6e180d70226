use Rattle.mls_tree_array.proofs.ChainLaws.{leaf_path, no_path, path_chain}
use Rattle.mls_tree_array.proofs.chains.last_path.Goals as goal

pub returns-in-Leaf : goal.returns-in-Leaf
returns-in-Leaf c = rw (leaf_path c.args.tree.now _ c.in-Leaf.ensures) c.new.ensures.items

pub returns-in-None : goal.returns-in-None
returns-in-None c = rw (no_path c.args.tree.now c.in-Branch.left _ c.in-Branch.right c.in-Branch.ensures c.requires c.in-None.ensures) c.new-in-None.ensures.items

pub returns-in-Some : goal.returns-in-Some
returns-in-Some c = rw (path_chain c.args.tree.now c.in-Branch.left _ c.in-Branch.right c.in-Branch.ensures c.requires _ c.in-Some.ensures) c.chain.ensures
