use Rattle.std.proofs.Common.{◌≡◌, List, Result, Ok, sym, ap, ◌∙◌}
use Rattle.std.specs.Prelude.{ℕ, codes}
use Rattle.std.proofs.lemmas.Result.{err_from_is_err_and}
use Rattle.mls_suite.specs.Labels.{sign_with_label}
use Rattle.mls_exchange.specs.State.{State}
use Rattle.mls_exchange.specs.Parts.{state_of}
use Rattle.mls_exchange.specs.Faults.{number_of}
use Rattle.mls_exchange.proofs.Steps.{unsigned, signs}
use Rattle.mls_exchange.proofs.exchange.Exchange.sign.Goals as goal

pub returns-in_err-text : goal.returns-in_err-text
returns-in_err-text g c =
    let p = err_from_is_err_and c.from_residual.result c.from_residual.ensures.1 in
    rw (← c.self.view_is, p.1, p.2) (λ memory.
    unsigned g.S.Suite.crypto (state_of c.self.inside.parts) c.args.plain.now.application_data.now c.args.plain.now.authenticated_data.now (number_of c.in_err-text.field-0.0)
    ((rw (c.as_slice.ensures, c.deref.ensures.value) at c.in_err-text.ensures.answer) memory))

pub returns : goal.returns
returns g c =
    let s : State = state_of c.self.inside.parts in
    let made : c.in_ok-sign_with_label.field-0.items ≡ sign_with_label g.S.Suite.crypto s.signing (codes "FramedContentTBS") c.in_ok-text.text.items =
    c.in_ok-sign_with_label.ensures ∙ ap (λ (x : List ℕ). sign_with_label g.S.Suite.crypto s.signing (codes "FramedContentTBS") x) c.deref-2.ensures.value in
    rw (← c.self.view_is)
    (signs g.S.Suite.crypto s c.args.plain.now.application_data.now c.args.plain.now.authenticated_data.now c.in_ok-text.text.items
    (rw (c.as_slice.ensures, c.deref.ensures.value) at c.in_ok-text.ensures.answer)
    ∙ ap (λ (x : List ℕ). let ok : List ℕ → Result (List ℕ) ℕ = λ z. Ok z in ok x) (sym made))
