use Rattle.std.proofs.Common.{subst}
use Rattle.mls_tree_array.specs.WayHashes.{HashesMerged}
use Rattle.mls_tree.specs.Tree.{term}
use Rattle.mls_tree.proofs.tree.PublicTree.hashes_over.Goals as goal

pub returns : goal.returns
returns c =
    subst (λ ys. HashesMerged 0 (term c.args.self.now) c.args.i c.args.parents.now c.args.leaf.now c.in_ok-root.root ys c.merged_hashes.new.out.items) c.in_ok-hashes.ensures.items
    (rw c.hashed_subtree-tree.ensures at c.in_ok-root.ensures.hashes)
