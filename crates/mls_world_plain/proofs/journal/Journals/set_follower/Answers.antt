use Rattle.mls_world_plain.proofs.Following.{noted_stands, noted_list, noted_followers}
use Rattle.mls_world_plain.proofs.journal.Journals.set_follower.Goals as goal

pub invariant_of-self : goal.invariant_of-self
invariant_of-self c = noted_stands c.self.inside.steps c.args.self.now c.self.view_is c.args.before c.args.number c.index_mut-stored.result.now c.index_mut-stored.ensures.value c.self.invariant c.requires.on

pub returns-clause-list : goal.returns-clause-list
returns-clause-list c = noted_list c.self.inside.steps c.args.self.now c.self.view_is c.args.before c.args.number c.index_mut-stored.result.now c.index_mut-stored.ensures.value

pub returns-clause-followers : goal.returns-clause-followers
returns-clause-followers c = noted_followers c.self.inside.steps c.args.self.now c.self.view_is c.args.before c.args.number c.index_mut-stored.result.now c.index_mut-stored.ensures.value
