use Rattle.mls_world_plain.specs.declared.commits.NewCommit.{NewCommit}
use Rattle.mls_model.specs.declared.event.Reply.TheVariants as reply
use Rattle.mls_world_plain.specs.Faults.{number_of}
use Rattle.mls_theorems.proofs.Reachable.{headline_of_reachable}
use Rattle.mls_world.proofs.Calling.{by_commit}
use Rattle.mls_world.proofs.world.World.commit.Goals as goal

pub invariant_of-self : goal.invariant_of-self
invariant_of-self g c = by_commit g.S.Suite.crypto (λ (v : NewCommit). reply.Commit v.message v.welcome) number_of c.self.inside.world c.commit.new.self c.commit.result c.self.invariant c.self.inside.alloc c.args.member c.args.items.now c.args.path c.args.seed.now c.know_few.ensures c.know_items.ensures c.commit.ensures.does

pub returns-clause-headline : goal.returns-clause-headline
returns-clause-headline g c =
    headline_of_reachable g.S.Suite.crypto g.met.S.Suite.lawful c.commit.new.self
    (by_commit g.S.Suite.crypto (λ (v : NewCommit). reply.Commit v.message v.welcome) number_of c.self.inside.world c.commit.new.self c.commit.result c.self.invariant c.self.inside.alloc c.args.member c.args.items.now c.args.path c.args.seed.now c.know_few.ensures c.know_items.ensures c.commit.ensures.does)
