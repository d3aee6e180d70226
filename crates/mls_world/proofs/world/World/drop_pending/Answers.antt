use Rattle.std.proofs.Common.{Bool}
use Rattle.mls_model.specs.declared.event.Reply.TheVariants as reply
use Rattle.mls_world_plain.specs.Faults.{number_of}
use Rattle.mls_theorems.proofs.Reachable.{headline_of_reachable}
use Rattle.mls_world.proofs.Calling.{by_drop}
use Rattle.mls_world.proofs.world.World.drop_pending.Goals as goal

pub invariant_of-self : goal.invariant_of-self
invariant_of-self g c = by_drop g.S.Suite.crypto (λ (b : Bool). reply.Dropped b) number_of c.self.inside.world c.drop_pending.new.self c.drop_pending.result c.self.invariant c.args.member c.drop_pending.ensures.does

pub returns-clause-headline : goal.returns-clause-headline
returns-clause-headline g c =
    headline_of_reachable g.S.Suite.crypto g.met.S.Suite.lawful c.drop_pending.new.self
    (by_drop g.S.Suite.crypto (λ (b : Bool). reply.Dropped b) number_of c.self.inside.world c.drop_pending.new.self c.drop_pending.result c.self.invariant c.args.member c.drop_pending.ensures.does)
