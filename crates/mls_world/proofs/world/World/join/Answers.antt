use Rattle.mls_world_plain.specs.declared.joins.NewMember.{NewMember}
use Rattle.mls_model.specs.declared.event.Reply.TheVariants as reply
use Rattle.mls_world_plain.specs.Faults.{number_of}
use Rattle.mls_theorems.proofs.Reachable.{headline_of_reachable}
use Rattle.mls_world.proofs.Calling.{by_join}
use Rattle.mls_world.proofs.world.World.join.Goals as goal

pub invariant_of-self : goal.invariant_of-self
invariant_of-self g c = by_join g.S.Suite.crypto (λ (v : NewMember). reply.Joined v.member v.epoch) number_of c.self.inside.world c.join.new.self c.join.result c.self.invariant c.args.candidate c.args.source.now c.know_source.ensures c.join.ensures.does

pub returns-clause-headline : goal.returns-clause-headline
returns-clause-headline g c =
    headline_of_reachable g.S.Suite.crypto g.met.S.Suite.lawful c.join.new.self
    (by_join g.S.Suite.crypto (λ (v : NewMember). reply.Joined v.member v.epoch) number_of c.self.inside.world c.join.new.self c.join.result c.self.invariant c.args.candidate c.args.source.now c.know_source.ensures c.join.ensures.does)
