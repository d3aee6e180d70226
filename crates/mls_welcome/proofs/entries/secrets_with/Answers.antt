use Rattle.std.proofs.lemmas.Result.{err_from_is_err_and}
use Rattle.mls_welcome.proofs.Measured.{never_refused}
use Rattle.mls_welcome.proofs.entries.secrets_with.Goals as goal

pub returns-in_err-bytes : goal.returns-in_err-bytes
returns-in_err-bytes c =
    let p = err_from_is_err_and c.from_residual-in_err-bytes.result c.from_residual-in_err-bytes.ensures.1 in
    rw (p.1, p.2) (λ other. never_refused _ _ c.in_ok-secrets.ensures.fits c.in_err-bytes.field-0.0 c.in_err-bytes.ensures other)
