use Rattle.std.proofs.lemmas.Result.{err_from_is_err_and}
use Rattle.mls_secret_tree.proofs.Nodes.{from_ratchet, not_from_ratchet}
use Rattle.mls_secret_tree.proofs.Refusals.{no_refusal, ratchet_refused}
use Rattle.mls_secret_tree.proofs.node.take_key.Goals as goal

pub returns-in_err-key-clause-answer : goal.returns-in_err-key-clause-answer
returns-in_err-key-clause-answer c =
    let p = err_from_is_err_and c.from_residual.result c.from_residual.ensures.1 in
    rw (p.1, p.2) (λ memory. not_from_ratchet _ _ _ (c.in_err-key.ensures.answer memory))

pub returns-in_err-key-clause-refused : goal.returns-in_err-key-clause-refused
returns-in_err-key-clause-refused c =
    let p = err_from_is_err_and c.from_residual.result c.from_residual.ensures.1 in
    rw (p.1, p.2) (λ n is. c.in_err-key.ensures.refused n (ratchet_refused _ _ n is))

pub returns-clause-answer : goal.returns-clause-answer
returns-clause-answer c = from_ratchet _ _ _ c.in_ok-key.ensures.answer

pub returns-clause-refused : goal.returns-clause-refused
returns-clause-refused c = λ n is. no_refusal _ _ n (from_ratchet _ _ _ c.in_ok-key.ensures.answer) is
