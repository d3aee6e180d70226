use Rattle.std.proofs.Common.{refl}
use Rattle.mls_tree_array.proofs.Numbers.{hash_found, no_hash}
use Rattle.mls_tree_array.proofs.validity.has_hash.Goals as goal

pub returns-in-Leaf : goal.returns-in-Leaf
returns-in-Leaf c = rw (hash_found c.args.tree.now.first c.args.tree.now.term c.args.node _ c.in-Some.ensures, c.in-Leaf.ensures) c.leaf_has_hash.ensures

pub returns-in-Branch : goal.returns-in-Branch
returns-in-Branch c = rw (hash_found c.args.tree.now.first c.args.tree.now.term c.args.node _ c.in-Some.ensures, c.in-Branch.ensures.is) c.parent_has_hash.ensures

pub returns-in-None : goal.returns-in-None
returns-in-None c = rw (no_hash c.args.tree.now.first c.args.tree.now.term c.args.node c.in-None.ensures) refl
