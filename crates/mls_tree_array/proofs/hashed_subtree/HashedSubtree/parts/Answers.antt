use Rattle.std.proofs.Common.{length}
use Rattle.mls_tree_array.proofs.HashedLaws.{left_hashes, right_hashes, left_within, right_within}
use Rattle.mls_tree_array.proofs.hashed_subtree.HashedSubtree.parts.Goals as goal

pub invariant_of-result : goal.invariant_of-result
invariant_of-result c =
    let hs = c.self.inside.cells.now.hashes in
    let len = length c.self.inside.cells.now.nodes in
    (left_within c.self.inside.tree len c.self.invariant.0 _ _ _ c.in-Branch.ensures, left_hashes c.self.inside.tree hs c.self.invariant.1 _ _ _ c.in-Branch.ensures)

pub invariant_of-result-in-Branch : goal.invariant_of-result-in-Branch
invariant_of-result-in-Branch c =
    let hs = c.self.inside.cells.now.hashes in
    let len = length c.self.inside.cells.now.nodes in
    (right_within c.self.inside.tree len c.self.invariant.0 _ _ _ c.in-Branch.ensures, right_hashes c.self.inside.tree hs c.self.invariant.1 _ _ _ c.in-Branch.ensures)
