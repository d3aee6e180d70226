use Rattle.std.proofs.Common.{ap, sym}
use Rattle.mls_model.specs.declared.event.Reply.{Reply}
use Rattle.mls_model.specs.World.{World}
use Rattle.mls_cli_replay.specs.declared.reply.Outcome.TheVariants as outcome
use Rattle.mls_cli_replay.specs.Actions.{events_in}
use Rattle.mls_cli_replay.proofs.Delivering.{nothing_run, one_run}
use Rattle.mls_cli_replay.proofs.Playing.{on_err}
use Rattle.mls_cli_replay.proofs.actions.do_action.Goals as goal

pub returns-in_err-reply-in-Event-clause-part : goal.returns-in_err-reply-in-Event-clause-part
returns-in_err-reply-in-Event-clause-part g c =
    on_err c.from_residual.result (nothing_run g.S.Suite.crypto c.args.world.now c.step.new.self (events_in c.args.world.now c.args.action.now) c.in_err-reply-in-Event.ensures.does)

pub returns-in_ok-reply-in-Event-clause-world : goal.returns-in_ok-reply-in-Event-clause-world
returns-in_ok-reply-in-Event-clause-world g c =
    rw c.in-Event.is (one_run g.S.Suite.crypto c.args.world.now c.step.new.self c.in-Event.event c.in_ok-reply-in-Event.reply c.in_ok-reply-in-Event.ensures.does)

pub returns-in_ok-reply-in-Event-clause-outcome : goal.returns-in_ok-reply-in-Event-clause-outcome
returns-in_ok-reply-in-Event-clause-outcome g c = rw c.in-Event.is (ap (λ (x : Reply × World). outcome.Reply x.0) (sym c.in_ok-reply-in-Event.ensures.does))

pub returns-in_err-reply-in-Event-clause-early : goal.returns-in_err-reply-in-Event-clause-early
returns-in_err-reply-in-Event-clause-early g c = rw c.in-Event.is (λ n h. let a = c.in_err-reply-in-Event.ensures.refused n h in absurd cc)

pub returns-in_ok-reply-in-Event-clause-early : goal.returns-in_ok-reply-in-Event-clause-early
returns-in_ok-reply-in-Event-clause-early g c = rw c.in-Event.is (λ n h. let a = c.in_ok-reply-in-Event.ensures.refused n h in (cc, a.1))
