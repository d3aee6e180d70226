use Rattle.std.proofs.Common.{arith, sym, subst}
use Rattle.mls_cli_replay.specs.declared.deliveries.Tally.{Tally}
use Rattle.mls_cli_replay.proofs.Delivering.{Delivered, delivered_all, delivered_next, delivered_none, delivered_part}
use Rattle.mls_cli_replay.proofs.Playing.{on_err}
use Rattle.mls_cli_replay.proofs.deliveries.deliver_to.Goals as goal

pub loop-member-init : goal.loop-member-init
loop-member-init g c =
    subst (λ (t : Tally). Delivered g.S.Suite.crypto c.args.world.now c.args.source.now c.args.members.now 0 c.args.world.now t) (sym c.no_deliveries-tally.ensures)
    (delivered_none g.S.Suite.crypto c.args.world.now c.args.source.now c.args.members.now)

pub returns-in_err-reply-clause-part : goal.returns-in_err-reply-clause-part
returns-in_err-reply-clause-part g c =
    on_err c.from_residual.result
    (delivered_part g.S.Suite.crypto c.args.world.now c.args.source.now c.args.members.now c.loop-member.member-index c.loop-member.world c.deliver.new.world c.loop-member.tally c.loop-member.invariant c.in_err-reply.ensures.does)

pub loop-member-preserved : goal.loop-member-preserved
loop-member-preserved g c =
    delivered_next g.S.Suite.crypto c.args.world.now c.args.source.now c.args.members.now c.loop-member.member-index c.loop-member-test.true
    c.loop-member.world c.deliver.new.world c.loop-member.tally c.tally_with-tally.result c.in_ok-reply.reply c.loop-member.invariant c.in_ok-reply.ensures.does c.tally_with-tally.ensures

pub returns-clause-world : goal.returns-clause-world
returns-clause-world g c =
    (delivered_all g.S.Suite.crypto c.args.world.now c.args.source.now c.args.members.now c.loop-member.member-index c.loop-member.world c.loop-member.tally (omega arith) c.loop-member.invariant).world

pub returns-clause-tally : goal.returns-clause-tally
returns-clause-tally g c =
    (delivered_all g.S.Suite.crypto c.args.world.now c.args.source.now c.args.members.now c.loop-member.member-index c.loop-member.world c.loop-member.tally (omega arith) c.loop-member.invariant).tally
