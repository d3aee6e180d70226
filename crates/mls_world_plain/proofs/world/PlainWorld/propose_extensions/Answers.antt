use Rattle.std.proofs.Common.{ℕ, Result, sym, ap, subst, refl, ◌∙◌}
use Rattle.std.proofs.lemmas.Result.{err_from_is_err_and}
use Rattle.mls_wire.specs.Checks.{DoesAs}
use Rattle.mls_leaf.specs.declared.extension.Extension.{Extension}
use Rattle.std.specs.Prelude.{List}
use Rattle.mls_model.specs.declared.event.Reply.{Reply}
use Rattle.mls_model.specs.declared.event.Reply.TheVariants as reply
use Rattle.mls_model.specs.World.{World}
use Rattle.mls_world_plain.specs.CallParts.{propose_allowed}
use Rattle.mls_world_plain.specs.Faults.{number_of}
use Rattle.mls_world_plain.proofs.EarlyChecks.{extensions_nobody, extensions_refused, extensions_pass}
use Rattle.mls_world_plain.proofs.Extending.{refused, extending_nobody, extending_refused, extending_allowed}
use Rattle.mls_world_plain.proofs.world.PlainWorld.propose_extensions.Goals as goal

pub returns-in_err-require_member-clause-does : goal.returns-in_err-require_member-clause-does
returns-in_err-require_member-clause-does g c =
    let p = err_from_is_err_and c.from_residual.result c.from_residual.ensures.1 in
    rw (p.1, p.2) (refl, λ other. extending_nobody g.S.Suite.crypto c.args.self.now c.args.member c.args.list.items c.in_err-require_member.ensures.missing.1 ∙ ap (λ (n : ℕ). refused n) (sym c.in_err-require_member.ensures.missing.0))

pub returns-in_err-require_member-clause-outright : goal.returns-in_err-require_member-clause-outright
returns-in_err-require_member-clause-outright g c = λ n h.
    let p = err_from_is_err_and c.from_residual.result c.from_residual.ensures.1 in
    rw (p.1, p.2) (c.in_err-require_member.ensures.missing.0 ∙ extensions_nobody c.args.self.now c.args.member c.args.list.items n c.in_err-require_member.ensures.missing.1 h)

pub returns-in_err-allowed-clause-does : goal.returns-in_err-allowed-clause-does
returns-in_err-allowed-clause-does g c =
    let p = err_from_is_err_and c.from_residual-in_err-allowed.result c.from_residual-in_err-allowed.ensures.1 in
    rw (p.1, p.2, c.in_err-allowed.ensures.0) (refl, λ other. extending_refused g.S.Suite.crypto c.args.self.now c.args.member c.args.list.items c.in_ok-require_member.ensures.there c.in_err-allowed.ensures.1)

pub returns-in_err-allowed-clause-outright : goal.returns-in_err-allowed-clause-outright
returns-in_err-allowed-clause-outright g c = λ n h.
    let p = err_from_is_err_and c.from_residual-in_err-allowed.result c.from_residual-in_err-allowed.ensures.1 in
    rw (p.1, p.2, c.in_err-allowed.ensures.0) (extensions_refused c.args.self.now c.args.member c.args.list.items n c.in_ok-require_member.ensures.there h)

pub returns-clause-does : goal.returns-clause-does
returns-clause-does g c =
    subst (λ (d : Result (Reply × World) ℕ). DoesAs (λ (n : ℕ). reply.Proposal n) number_of d c.args.self.now c.propose_allowed.new.self c.propose_allowed.result)
    (ap (λ (l : List Extension). propose_allowed g.S.Suite.crypto c.args.self.now c.args.member l) c.in_ok-allowed.ensures.0
    ∙ sym (extending_allowed g.S.Suite.crypto c.args.self.now c.args.member c.args.list.items c.in_ok-allowed.ensures.1))
    c.propose_allowed.ensures.does

pub returns-clause-outright : goal.returns-clause-outright
returns-clause-outright g c = λ n h. absurd (extensions_pass c.args.self.now c.args.member c.args.list.items n c.in_ok-require_member.ensures.there c.in_ok-allowed.ensures.1 h)
