use Rattle.std.proofs.lemmas.Result.{err_from_is_err_and}
use Rattle.mls_exchange.proofs.Refused.{text_refused}
use Rattle.mls_exchange.proofs.said.signed_text.Goals as goal

pub returns-in_err-text-clause-answer : goal.returns-in_err-text-clause-answer
returns-in_err-text-clause-answer c =
    let p = err_from_is_err_and c.from_residual.result c.from_residual.ensures.1 in
    rw (p.1, p.2) (λ memory. text_refused c.args.said.now c.args.context.now c.in_err-text.field-0.0 c.in_err-text.ensures memory)
