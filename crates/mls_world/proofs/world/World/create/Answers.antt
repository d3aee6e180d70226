use Rattle.std.proofs.Common.{ℕ}
use Rattle.mls_model.specs.declared.event.Reply.TheVariants as reply
use Rattle.mls_world_plain.specs.Faults.{number_of}
use Rattle.mls_theorems.proofs.Reachable.{headline_of_reachable}
use Rattle.mls_world.proofs.Calling.{by_create}
use Rattle.mls_world.proofs.world.World.create.Goals as goal

pub invariant_of-self : goal.invariant_of-self
invariant_of-self g c = by_create g.S.Suite.crypto (λ (k : ℕ). reply.Created k) number_of c.self.inside.world c.create.new.self c.create.result c.self.invariant c.self.inside.alloc c.args.candidate c.args.group.now c.args.seed.now c.know_short.ensures c.create.ensures.does

pub returns-clause-headline : goal.returns-clause-headline
returns-clause-headline g c =
    headline_of_reachable g.S.Suite.crypto g.met.S.Suite.lawful c.create.new.self
    (by_create g.S.Suite.crypto (λ (k : ℕ). reply.Created k) number_of c.self.inside.world c.create.new.self c.create.result c.self.invariant c.self.inside.alloc c.args.candidate c.args.group.now c.args.seed.now c.know_short.ensures c.create.ensures.does)
