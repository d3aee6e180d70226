use Rattle.mls_test_world.proofs.Delivering.{reach_if_all_ran}
use Rattle.mls_test_world.proofs.deliveries.deliver_commit.Goals as goal

pub returns-clause-agree : goal.returns-clause-agree
returns-clause-agree g c =
    reach_if_all_ran g.S.Suite.crypto c.args.world.now c.run.new.self c.args.events.now c.args.replies.now.items c.run.new.replies.items c.run.result c.run.ensures.along c.run.ensures.run
