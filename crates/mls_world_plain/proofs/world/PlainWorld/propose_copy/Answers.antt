use Rattle.std.proofs.Common.{ℕ, Result, sym, ap, subst, refl, ◌∙◌}
use Rattle.std.proofs.lemmas.Result.{err_from_is_err_and}
use Rattle.mls_wire.specs.Checks.{DoesAs}
use Rattle.mls_leaf.specs.declared.extension.Extension.{Extension}
use Rattle.std.specs.Prelude.{List}
use Rattle.mls_model.specs.declared.event.Reply.{Reply}
use Rattle.mls_model.specs.declared.event.Reply.TheVariants as reply
use Rattle.mls_model.specs.World.{World}
use Rattle.mls_world_plain.specs.CallParts.{propose_allowed}
use Rattle.mls_world_plain.specs.Faults.{number_of}
use Rattle.mls_world_plain.proofs.EarlyChecks.{extensions_nobody, extensions_pass, list_refused}
use Rattle.mls_world_plain.proofs.Extending.{refused, extending_nobody, extending_allowed, list_allowed, list_not_allowed}
use Rattle.mls_world_plain.proofs.world.PlainWorld.propose_copy.Goals as goal

pub returns-in_err-require_member-clause-does : goal.returns-in_err-require_member-clause-does
returns-in_err-require_member-clause-does g c =
    let p = err_from_is_err_and c.from_residual.result c.from_residual.ensures.1 in
    rw (p.1, p.2) (refl, λ other. extending_nobody g.S.Suite.crypto c.args.self.now c.args.member c.args.extensions.now c.in_err-require_member.ensures.missing.1 ∙ ap (λ (n : ℕ). refused n) (sym c.in_err-require_member.ensures.missing.0))

pub returns-in_err-require_member-clause-outright : goal.returns-in_err-require_member-clause-outright
returns-in_err-require_member-clause-outright g c = λ n h.
    let p = err_from_is_err_and c.from_residual.result c.from_residual.ensures.1 in
    rw (p.1, p.2) (c.in_err-require_member.ensures.missing.0 ∙ extensions_nobody c.args.self.now c.args.member c.args.extensions.now n c.in_err-require_member.ensures.missing.1 h)

pub returns-in_err-copy-clause-does : goal.returns-in_err-copy-clause-does
returns-in_err-copy-clause-does g c =
    let p = err_from_is_err_and c.from_residual-in_err-copy.result c.from_residual-in_err-copy.ensures.1 in
    rw (p.1, p.2) (refl, λ other. list_not_allowed g.S.Suite.crypto c.args.self.now c.args.member c.args.extensions.now (number_of c.in_err-copy.field-0.0) c.in_ok-require_member.ensures.there (c.in_err-copy.ensures.answer other))

pub returns-in_err-copy-clause-outright : goal.returns-in_err-copy-clause-outright
returns-in_err-copy-clause-outright g c = λ n h.
    let p = err_from_is_err_and c.from_residual-in_err-copy.result c.from_residual-in_err-copy.ensures.1 in
    rw (p.1, p.2) (c.in_err-copy.ensures.outright n (list_refused c.args.self.now c.args.member c.args.extensions.now n c.in_ok-require_member.ensures.there h))

pub returns-clause-does : goal.returns-clause-does
returns-clause-does g c =
    let s = list_allowed c.args.extensions.now c.in_ok-copy.copy c.in_ok-copy.ensures.answer in
    subst (λ (d : Result (Reply × World) ℕ). DoesAs (λ (n : ℕ). reply.Proposal n) number_of d c.args.self.now c.propose_allowed.new.self c.propose_allowed.result)
    (ap (λ (l : List Extension). propose_allowed g.S.Suite.crypto c.args.self.now c.args.member l) (sym s.1)
    ∙ sym (extending_allowed g.S.Suite.crypto c.args.self.now c.args.member c.args.extensions.now s.0))
    c.propose_allowed.ensures.does

pub returns-clause-outright : goal.returns-clause-outright
returns-clause-outright g c = λ n h.
    let s = list_allowed c.args.extensions.now c.in_ok-copy.copy c.in_ok-copy.ensures.answer in
    absurd (extensions_pass c.args.self.now c.args.member c.args.extensions.now n c.in_ok-require_member.ensures.there s.0 h)
