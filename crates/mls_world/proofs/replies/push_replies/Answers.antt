use Rattle.std.proofs.Common.{◌∙◌}
use Rattle.mls_world.proofs.Replying.{world_first, replied_first, world_after, replied_after, ran_part, world_last, replied_last}
use Rattle.mls_world.proofs.replies.push_replies.Goals as goal

pub loop-event-preserved : goal.loop-event-preserved
loop-event-preserved g c = record {
  world = world_after g.S.Suite.crypto c.args.world.now c.loop-event.world c.step.new.self c.args.events.now c.loop-event.event-index c.event-item.result c.in_ok-reply.reply
      c.loop-event.invariant.world c.loop-event-test.true c.event-item.is c.in_ok-reply.ensures.does;
  replied = c.push_reserved.ensures.items
      ∙ replied_after g.S.Suite.crypto c.args.world.now c.loop-event.world c.step.new.self c.args.events.now c.loop-event.event-index c.event-item.result c.in_ok-reply.reply
      c.args.replies.now.items c.reserve.new.self.items c.loop-event.invariant.world c.loop-event-test.true c.event-item.is c.in_ok-reply.ensures.does (c.reserve.ensures.items ∙ c.loop-event.invariant.replied);
}

pub loop-event-init : goal.loop-event-init
loop-event-init g c = record { world = world_first g.S.Suite.crypto c.args.world.now; replied = replied_first g.S.Suite.crypto c.args.world.now c.args.replies.now.items }

pub returns-in_err-reserve : goal.returns-in_err-reserve
returns-in_err-reserve g c =
    ran_part g.S.Suite.crypto c.args.events.now c.args.world.now c.loop-event.world c.args.replies.now.items c.reserve.new.self.items c.from_residual.result c.loop-event.event-index
    c.from_residual.ensures.0 c.loop-event-test.true c.loop-event.invariant.world (c.reserve.ensures.items ∙ c.loop-event.invariant.replied)

pub returns-in_err-reply : goal.returns-in_err-reply
returns-in_err-reply g c =
    ran_part g.S.Suite.crypto c.args.events.now c.args.world.now c.step.new.self c.args.replies.now.items c.reserve.new.self.items c.from_residual-in_err-reply.result c.loop-event.event-index
    c.from_residual-in_err-reply.ensures.0 c.loop-event-test.true (c.in_err-reply.ensures.does ∙ c.loop-event.invariant.world) (c.reserve.ensures.items ∙ c.loop-event.invariant.replied)

pub returns : goal.returns
returns g c = (
  world_last g.S.Suite.crypto c.args.world.now c.loop-event.world c.args.events.now c.loop-event.event-index c.loop-event.invariant.world c.loop-event-test.false,
  replied_last g.S.Suite.crypto c.args.world.now c.args.events.now c.loop-event.event-index c.args.replies.now.items c.loop-event.replies.items c.loop-event.invariant.replied c.loop-event-test.false,
)
