use Rattle.mls_world_plain.specs.declared.candidates.NewCandidate.{NewCandidate}
use Rattle.mls_model.specs.declared.event.Reply.TheVariants as reply
use Rattle.mls_world_plain.specs.Faults.{number_of}
use Rattle.mls_theorems.proofs.Reachable.{headline_of_reachable}
use Rattle.mls_world.proofs.Calling.{by_candidate}
use Rattle.mls_world.proofs.world.World.candidate.Goals as goal

pub invariant_of-self : goal.invariant_of-self
invariant_of-self g c = by_candidate g.S.Suite.crypto (λ (v : NewCandidate). reply.Candidate v.candidate v.message) number_of c.self.inside.world c.candidate.new.self c.candidate.result c.self.invariant c.self.inside.alloc c.args.identity.now c.args.seed.now c.know_short.ensures c.candidate.ensures

pub returns-clause-headline : goal.returns-clause-headline
returns-clause-headline g c =
    headline_of_reachable g.S.Suite.crypto g.met.S.Suite.lawful c.candidate.new.self
    (by_candidate g.S.Suite.crypto (λ (v : NewCandidate). reply.Candidate v.candidate v.message) number_of c.self.inside.world c.candidate.new.self c.candidate.result c.self.invariant c.self.inside.alloc c.args.identity.now c.args.seed.now c.know_short.ensures c.candidate.ensures)
