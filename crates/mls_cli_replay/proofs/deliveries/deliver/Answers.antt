use Rattle.std.proofs.Common.{◌≡◌, ◌∙◌, ℕ, Err, arith, subst}
use Rattle.mls_model.specs.declared.event.Event.TheVariants as event
use Rattle.mls_world_plain.specs.EarlyChecks.{early_checks}
use Rattle.mls_world_plain.proofs.Stepping.{never_memory}
use Rattle.mls_cli_replay.proofs.Delivering.{decided}
use Rattle.mls_cli_replay.proofs.deliveries.deliver.Goals as goal

pub returns-in-Ok-clause-early : goal.returns-in-Ok-clause-early
returns-in-Ok-clause-early g c = λ n h. absurd (c.in-Ok.ensures.outright n (decided g.S.Suite.crypto.number c.args.world.now c.args.member c.args.source.now n h))

pub returns-in-1-clause-early : goal.returns-in-1-clause-early
returns-in-1-clause-early g c = λ n h.
    let a = c.in-Err.ensures.outright n (decided g.S.Suite.crypto.number c.args.world.now c.args.member c.args.source.now n h) in
    let one : n ≡ 1 = omega (arith, a) in
    absurd (never_memory g.S.Suite.crypto.number c.args.world.now (event.Deliver c.args.member c.args.source.now)
    (subst (λ (i : ℕ). early_checks g.S.Suite.crypto.number c.args.world.now (event.Deliver c.args.member c.args.source.now) ≡ Err i) one h))

pub returns-in_default-clause-early : goal.returns-in_default-clause-early
returns-in_default-clause-early g c = λ n h.
    let e : c.number.result ≡ n = c.number.ensures ∙ c.in-Err.ensures.outright n (decided g.S.Suite.crypto.number c.args.world.now c.args.member c.args.source.now n h) in
    (cc, c.in-Err.ensures.does.0)
