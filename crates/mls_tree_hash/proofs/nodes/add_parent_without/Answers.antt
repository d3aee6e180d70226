use Rattle.std.proofs.Common.{subst, List, ℕ}
use Rattle.mls_leaf.specs.Parent.{Parent}
use Rattle.mls_tree_model.specs.Sets.{less}
use Rattle.mls_tree_hash.specs.Feeds.{Feeds}
use Rattle.mls_tree_hash.proofs.Feeding.{feeds_then}
use Rattle.mls_tree_hash.proofs.Parents.{parent_spelled}
use Rattle.mls_tree_hash.proofs.nodes.add_parent_without.Goals as goal

pub returns : goal.returns
returns c =
    let p : Parent = record { encryption_key = c.args.parent.now.encryption_key; parent_hash = c.args.parent.now.parent_hash; unmerged_leaves = less c.args.unmerged.now c.args.parent.now.unmerged_leaves } in
    let fed = feeds_then c.add_vector.ensures (feeds_then c.add_vector-2.ensures c.add_remaining.ensures) in
    let named = rw (c.encryption_key.ensures, c.parent_hash.ensures, c.unmerged_leaves.ensures.entries) at fed in
    subst (λ (l : List ℕ). Feeds c.args.feed.now l c.add_remaining.new.feed) (parent_spelled p) named
