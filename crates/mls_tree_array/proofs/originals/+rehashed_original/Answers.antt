use Rattle.mls_tree_array.proofs.Original.{leaf_original, original_sides}
use Rattle.mls_tree_array.proofs.originals.+rehashed_original.Goals as goal

pub returns-in-Leaf : goal.returns-in-Leaf
returns-in-Leaf t c =
    rw (leaf_original c.args.unmerged.now c.args.tree.now _ c.in-Leaf.ensures, ← c.leaf_in.ensures, ← c.first.ensures) c.rehashed_leaf.ensures

pub returns-in-Branch : goal.returns-in-Branch
returns-in-Branch t c =
    rw (original_sides c.args.unmerged.now c.args.tree.now c.in-Branch.left _ c.in-Branch.right c.in-Branch.ensures, ← c.parent_in.ensures, ← c.rehashed_original-left.ensures, ← c.rehashed_original-right.ensures)
    c.branch_hash_without.ensures
