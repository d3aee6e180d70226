use Rattle.std.proofs.Common.{ℕ}
use Rattle.mls_model.specs.declared.event.Reply.TheVariants as reply
use Rattle.mls_world_plain.specs.Faults.{number_of}
use Rattle.mls_theorems.proofs.Reachable.{headline_of_reachable}
use Rattle.mls_world.proofs.Calling.{by_propose_extensions}
use Rattle.mls_world.proofs.world.World.propose_extensions.Goals as goal

pub invariant_of-self : goal.invariant_of-self
invariant_of-self g c = by_propose_extensions g.S.Suite.crypto (λ (n : ℕ). reply.Proposal n) number_of c.self.inside.world c.propose_extensions.new.self c.propose_extensions.result c.self.invariant c.args.member c.args.list c.propose_extensions.ensures.does

pub returns-clause-headline : goal.returns-clause-headline
returns-clause-headline g c =
    headline_of_reachable g.S.Suite.crypto g.met.S.Suite.lawful c.propose_extensions.new.self
    (by_propose_extensions g.S.Suite.crypto (λ (n : ℕ). reply.Proposal n) number_of c.self.inside.world c.propose_extensions.new.self c.propose_extensions.result c.self.invariant c.args.member c.args.list c.propose_extensions.ensures.does)
