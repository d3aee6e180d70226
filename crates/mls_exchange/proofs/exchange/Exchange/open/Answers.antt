use Rattle.std.proofs.Common.{ℕ, Result, Ok, refl, ap, ◌∙◌}
use Rattle.std.proofs.lemmas.Result.{err_from_is_err_and}
use Rattle.mls_exchange.specs.declared.open.Opened.{Opened}
use Rattle.mls_exchange.specs.State.{State}
use Rattle.mls_exchange.proofs.Steps.{fault_of, not_arrived, not_decoded, arrived, after_keep}
use Rattle.mls_exchange.proofs.exchange.Exchange.open.Goals as goal

pub returns-in_err-check_arrival-clause-answer : goal.returns-in_err-check_arrival-clause-answer
returns-in_err-check_arrival-clause-answer g c =
    let p = err_from_is_err_and c.from_residual.result c.from_residual.ensures.1 in
    rw (p.1, p.2) (refl, λ memory. not_arrived g.S.Suite.crypto c.args.self.now c.args.bytes.now _ c.in_err-check_arrival.ensures)

pub returns-in_err-message-clause-answer : goal.returns-in_err-message-clause-answer
returns-in_err-message-clause-answer g c =
    let p = err_from_is_err_and c.from_residual-in_err-message.result c.from_residual-in_err-message.ensures.1 in
    rw (p.1, p.2) (
      refl,
      λ memory. not_decoded g.S.Suite.crypto c.args.self.now c.args.bytes.now _
          (fault_of c.in_err-message.field-0.0 _ c.in_err-message.ensures.exact memory),
    )

pub returns-in_err-opened-clause-answer : goal.returns-in_err-opened-clause-answer
returns-in_err-opened-clause-answer g c =
    let read = arrived g.S.Suite.crypto c.args.self.now c.args.bytes.now c.in_ok-message.message c.in_ok-check_arrival.ensures c.in_ok-message.ensures.exact in
    let p = err_from_is_err_and c.from_residual-in_err-opened.result c.from_residual-in_err-opened.ensures.1 in
    rw (p.1, p.2) (refl, λ memory. read ∙ c.in_err-opened.ensures memory)

pub returns-clause-answer : goal.returns-clause-answer
returns-clause-answer g c =
    let read = arrived g.S.Suite.crypto c.args.self.now c.args.bytes.now c.in_ok-message.message c.in_ok-check_arrival.ensures c.in_ok-message.ensures.exact in
    let after = after_keep c.args.self.now c.in_ok-opened.draft c.self.inside.parts c.keep.new.self c.self.view_is c.keep.ensures in
    read ∙ c.in_ok-opened.ensures
    ∙ ap (λ (x : State). let ok : Opened × State → Result (Opened × State) ℕ = λ z. Ok z in ok (c.in_ok-opened.opened, x)) after
