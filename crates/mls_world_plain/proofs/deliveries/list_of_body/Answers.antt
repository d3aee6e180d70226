use Rattle.mls_world_plain.proofs.Readings.{list_is, unlisted_is}
use Rattle.mls_world_plain.proofs.deliveries.list_of_body.Goals as goal

pub returns-in-Commit : goal.returns-in-Commit
returns-in-Commit c = list_is c.args.view.now _ _ c.in-Commit.is

pub returns-in_default : goal.returns-in_default
returns-in_default c = unlisted_is c.args.view.now c.in_default.not-Commit
