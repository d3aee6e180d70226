use Rattle.mls_public_group.proofs.Folding.{removed_one, removed_same}
use Rattle.mls_public_group.proofs.changed_leaves.push_removed.Goals as goal

pub returns-in_ok-push-in-Remove : goal.returns-in_ok-push-in-Remove
returns-in_ok-push-in-Remove c = removed_one c.args.used.now _ c.used.view_is c.args.leaves.now.items _ c.in-Remove.leaf c.in-Remove.is c.in_ok-push-in-Remove.ensures.items

pub returns-in_default : goal.returns-in_default
returns-in_default c = removed_same c.args.used.now _ c.used.view_is c.args.leaves.now.items c.in_default.not-Remove
