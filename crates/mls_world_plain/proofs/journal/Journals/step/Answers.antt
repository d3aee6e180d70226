use Rattle.mls_world_plain.proofs.Following.{step_there}
use Rattle.mls_world_plain.proofs.journal.Journals.step.Goals as goal

pub returns : goal.returns
returns c = step_there c.self.inside.steps c.args.self.now c.self.view_is c.args.number c.index.result.now c.requires c.index.ensures c.self.invariant
