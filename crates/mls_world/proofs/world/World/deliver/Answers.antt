use Rattle.mls_model.specs.declared.effect.Effect.{Effect}
use Rattle.mls_model.specs.declared.event.Reply.TheVariants as reply
use Rattle.mls_world_plain.specs.Faults.{number_of}
use Rattle.mls_theorems.proofs.Reachable.{headline_of_reachable}
use Rattle.mls_world.proofs.Calling.{by_deliver}
use Rattle.mls_world.proofs.world.World.deliver.Goals as goal

pub invariant_of-self : goal.invariant_of-self
invariant_of-self g c = by_deliver g.S.Suite.crypto (λ (e : Effect). reply.Delivered e) number_of c.self.inside.world c.deliver.new.self c.deliver.result c.self.invariant c.args.member c.args.source.now c.know_source.ensures c.deliver.ensures.does

pub returns-clause-headline : goal.returns-clause-headline
returns-clause-headline g c =
    headline_of_reachable g.S.Suite.crypto g.met.S.Suite.lawful c.deliver.new.self
    (by_deliver g.S.Suite.crypto (λ (e : Effect). reply.Delivered e) number_of c.self.inside.world c.deliver.new.self c.deliver.result c.self.invariant c.args.member c.args.source.now c.know_source.ensures c.deliver.ensures.does)
