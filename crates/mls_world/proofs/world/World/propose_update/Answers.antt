use Rattle.std.proofs.Common.{ℕ}
use Rattle.mls_model.specs.declared.event.Reply.TheVariants as reply
use Rattle.mls_world_plain.specs.Faults.{number_of}
use Rattle.mls_theorems.proofs.Reachable.{headline_of_reachable}
use Rattle.mls_world.proofs.Calling.{by_propose_update}
use Rattle.mls_world.proofs.world.World.propose_update.Goals as goal

pub invariant_of-self : goal.invariant_of-self
invariant_of-self g c = by_propose_update g.S.Suite.crypto (λ (n : ℕ). reply.Proposal n) number_of c.self.inside.world c.propose_update.new.self c.propose_update.result c.self.invariant c.args.member c.args.seed.now c.propose_update.ensures.does

pub returns-clause-headline : goal.returns-clause-headline
returns-clause-headline g c =
    headline_of_reachable g.S.Suite.crypto g.met.S.Suite.lawful c.propose_update.new.self
    (by_propose_update g.S.Suite.crypto (λ (n : ℕ). reply.Proposal n) number_of c.self.inside.world c.propose_update.new.self c.propose_update.result c.self.invariant c.args.member c.args.seed.now c.propose_update.ensures.does)
