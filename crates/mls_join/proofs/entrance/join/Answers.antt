use Rattle.std.proofs.lemmas.Result.{err_from_is_err_and}
use Rattle.mls_join.proofs.FewNodes.{verdict_refused}
use Rattle.mls_join.proofs.entrance.join.Goals as goal

pub returns-in_err-opened-clause-answer : goal.returns-in_err-opened-clause-answer
returns-in_err-opened-clause-answer g c =
    let p = err_from_is_err_and c.from_residual.result c.from_residual.ensures.1 in
    rw (p.1, p.2) (λ other. verdict_refused g.S.Suite.crypto c.args.candidate.now c.args.bytes.now _ (c.in_err-opened.ensures.answer other))
