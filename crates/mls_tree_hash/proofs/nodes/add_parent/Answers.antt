use Rattle.std.proofs.Common.{subst, List, ℕ}
use Rattle.mls_tree_hash.specs.Feeds.{Feeds}
use Rattle.mls_tree_hash.proofs.Feeding.{feeds_then}
use Rattle.mls_tree_hash.proofs.Parents.{parent_spelled}
use Rattle.mls_tree_hash.proofs.nodes.add_parent.Goals as goal

pub returns : goal.returns
returns c =
    let fed = feeds_then c.add_vector.ensures (feeds_then c.add_vector-2.ensures c.add_entries.ensures) in
    let named = rw (c.encryption_key.ensures, c.parent_hash.ensures, c.unmerged_leaves.ensures.entries) at fed in
    subst (λ (l : List ℕ). Feeds c.args.feed.now l c.add_entries.new.feed) (parent_spelled c.args.parent.now) named
