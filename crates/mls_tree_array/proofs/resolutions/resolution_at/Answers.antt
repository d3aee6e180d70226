use Rattle.std.proofs.Common.{sym, append-nil}
use Rattle.mls_tree_array.proofs.Numbers.{resolution_found, no_resolution}
use Rattle.mls_tree_array.proofs.resolutions.resolution_at.Goals as goal

pub returns-in-Some : goal.returns-in-Some
returns-in-Some c =
    rw (resolution_found c.args.tree.now.first c.args.tree.now.term c.args.x _ (rw c.from.ensures at c.in-Some.ensures)) c.resolution.ensures

pub returns-in-None : goal.returns-in-None
returns-in-None c =
    rw (no_resolution c.args.tree.now.first c.args.tree.now.term c.args.x (rw c.from.ensures at c.in-None.ensures)) (sym (append-nil _))
