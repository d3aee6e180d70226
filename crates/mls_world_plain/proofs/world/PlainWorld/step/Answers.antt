use Rattle.std.proofs.Common.{◌≡◌, ℕ, Err, subst, ◌∙◌, arith}
use Rattle.mls_world_plain.specs.EarlyChecks.{early_checks}
use Rattle.mls_world_plain.proofs.Stepping.{never_memory}
use Rattle.mls_world_plain.proofs.world.PlainWorld.step.Goals as goal

pub returns-in-Ok-clause-refused : goal.returns-in-Ok-clause-refused
returns-in-Ok-clause-refused g c = λ n h. absurd (c.in-Ok.ensures.outright n h)

pub returns-in-1-clause-refused : goal.returns-in-1-clause-refused
returns-in-1-clause-refused g c = λ n h.
    let a = c.in-Err.ensures.outright n h in
    let one : n ≡ 1 = omega (arith, a) in
    absurd (never_memory g.S.Suite.crypto.number c.args.self.now c.args.event.now (subst (λ (i : ℕ). early_checks g.S.Suite.crypto.number c.args.self.now c.args.event.now ≡ Err i) one h))

pub returns-in_default-clause-refused : goal.returns-in_default-clause-refused
returns-in_default-clause-refused g c = λ n h.
    let e : c.number.result ≡ n = c.number.ensures ∙ c.in-Err.ensures.outright n h in
    (cc, c.in-Err.ensures.does.0)
