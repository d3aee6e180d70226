use Rattle.std.proofs.Common.{◌≡◌, subst}
use Rattle.mls_model.specs.Headline.{HoldsAlong}
use Rattle.mls_model.specs.World.{World}
use Rattle.mls_theorems.proofs.Reachable.{headline_of_reachable}
use Rattle.mls_world.proofs.Reaching.{reached_by_run, holds_along}
use Rattle.mls_world.proofs.world.World.run.Goals as goal

pub invariant_of-self : goal.invariant_of-self
invariant_of-self g c =
    reached_by_run g.S.Suite.crypto c.args.events.now c.self.inside.world c.push_replies.new.world c.args.replies.now.items c.push_replies.new.replies.items c.push_replies.result
    c.self.invariant c.know_events.ensures c.push_replies.ensures

pub returns-clause-headline : goal.returns-clause-headline
returns-clause-headline g c =
    headline_of_reachable g.S.Suite.crypto g.met.S.Suite.lawful c.push_replies.new.world
    (reached_by_run g.S.Suite.crypto c.args.events.now c.self.inside.world c.push_replies.new.world c.args.replies.now.items c.push_replies.new.replies.items c.push_replies.result
    c.self.invariant c.know_events.ensures c.push_replies.ensures)

pub returns-clause-along : goal.returns-clause-along
returns-clause-along g c =
    let same : c.self.inside.world ≡ c.args.self.now = cc in
    subst (λ (w : World). HoldsAlong g.S.Suite.crypto w c.args.events.now) same (holds_along g.S.Suite.crypto g.met.S.Suite.lawful c.args.events.now c.self.inside.world c.self.invariant c.know_events.ensures)
