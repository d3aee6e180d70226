use Rattle.mls_world_plain.proofs.Following.{added_stands}
use Rattle.mls_world_plain.proofs.journal.Journals.add.Goals as goal

pub invariant_of-self : goal.invariant_of-self
invariant_of-self c = added_stands c.self.inside.steps c.args.self.now c.self.view_is c.push_reserved.new.self.items c.args.step c.self.invariant c.requires.back c.push_reserved.ensures.items
