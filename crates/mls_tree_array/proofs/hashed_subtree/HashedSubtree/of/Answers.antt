use Rattle.std.proofs.Common.{arith}
use Rattle.mls_tree_model.proofs.ArrayLaws.{size-term_of}
use Rattle.mls_tree_array.proofs.HashedLaws.{whole_hashes}
use Rattle.mls_tree_array.proofs.hashed_subtree.HashedSubtree.of.Goals as goal

pub invariant_of-result : goal.invariant_of-result
invariant_of-result c =
    rw c.of-tree.ensures (let many = size-term_of c.args.height c.args.cells.now.nodes in (omega (arith, c.requires.shape), whole_hashes _ _ c.requires.hashed))
