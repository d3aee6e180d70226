use Rattle.mls_theorems.proofs.Reachable.{headline_of_reachable}
use Rattle.mls_world.proofs.Reaching.{reached_by_step}
use Rattle.mls_world.proofs.world.World.step.Goals as goal

pub invariant_of-self : goal.invariant_of-self
invariant_of-self g c = reached_by_step g.S.Suite.crypto c.args.event.now c.self.inside.world c.step.new.self c.step.result c.self.invariant c.know_event.ensures c.step.ensures.does

pub returns-clause-headline : goal.returns-clause-headline
returns-clause-headline g c =
    headline_of_reachable g.S.Suite.crypto g.met.S.Suite.lawful c.step.new.self
    (reached_by_step g.S.Suite.crypto c.args.event.now c.self.inside.world c.step.new.self c.step.result c.self.invariant c.know_event.ensures c.step.ensures.does)
