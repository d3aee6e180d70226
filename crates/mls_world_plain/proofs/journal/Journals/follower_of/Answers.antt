use Rattle.mls_world_plain.proofs.Following.{follower_read, follower_goes_on}
use Rattle.mls_world_plain.proofs.journal.Journals.follower_of.Goals as goal

pub returns-clause-follower : goal.returns-clause-follower
returns-clause-follower c = follower_read c.self.inside.steps c.args.self.now c.self.view_is c.args.number c.index.result.now c.requires c.index.ensures

pub returns-clause-on : goal.returns-clause-on
returns-clause-on c = follower_goes_on c.self.inside.steps c.args.self.now c.self.view_is c.args.number c.index.result.now c.requires c.index.ensures c.self.invariant
