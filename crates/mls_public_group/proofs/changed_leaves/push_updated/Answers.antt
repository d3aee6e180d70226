use Rattle.mls_public_group.proofs.Folding.{updated_one, updated_same}
use Rattle.mls_public_group.proofs.changed_leaves.push_updated.Goals as goal

pub returns-in_ok-push-in-Update : goal.returns-in_ok-push-in-Update
returns-in_ok-push-in-Update c = updated_one c.args.used.now _ c.used.view_is c.args.leaves.now.items _ _ c.in-Update.is c.in_ok-push-in-Update.ensures.items

pub returns-in_default : goal.returns-in_default
returns-in_default c = updated_same c.args.used.now _ c.used.view_is c.args.leaves.now.items c.in_default.not-Update
