use Rattle.std.proofs.Common.{◌≡◌, ◌∙◌, length, ap}
use Rattle.mls_tree_model.specs.Hashes.{tree_hash}
use Rattle.mls_tree_array.proofs.HashedLaws.{within, root_hash}
use Rattle.mls_tree_array.proofs.hashed_subtree.HashedSubtree.hash.Goals as goal

pub hash-requires : goal.hash-requires
hash-requires c = within c.self.inside.tree c.number.result (length c.self.inside.cells.now.nodes) c.number.ensures c.self.invariant.0

pub unreachable-requires : goal.unreachable-requires
unreachable-requires c = let there = root_hash c.self.inside.tree c.self.inside.cells.now.hashes c.self.invariant.1 c.number.result c.number.ensures in cc (c.hash.ensures, c.in-None.is)

pub returns : goal.returns
returns c =
    let there = root_hash c.self.inside.tree c.self.inside.cells.now.hashes c.self.invariant.1 c.number.result c.number.ensures in
    let is : c.in-Some.hash ≡ tree_hash c.self.inside.tree.first c.self.inside.tree.term = cc (c.hash.ensures, c.in-Some.is) in
    is ∙ ap (λ t. tree_hash t.first t.term) c.self.view_is
