use Rattle.std.proofs.Common.{refl}
use Rattle.mls_tree_array.proofs.Numbers.{resolution_found, no_resolution}
use Rattle.mls_tree_array.proofs.resolutions.is_reached_at.Goals as goal

pub returns-in-Some : goal.returns-in-Some
returns-in-Some c =
    rw (resolution_found c.args.tree.now.first c.args.tree.now.term c.args.x _ (rw c.from.ensures at c.in-Some.ensures)) (c.is_reached.ensures c.in-Some.subtree.first)

pub returns-in-None : goal.returns-in-None
returns-in-None c = rw (no_resolution c.args.tree.now.first c.args.tree.now.term c.args.x (rw c.from.ensures at c.in-None.ensures)) refl
