use Rattle.std.proofs.lemmas.Result.{err_from_is_err_and}
use Rattle.mls_welcome.proofs.Measured.{never_refused}
use Rattle.mls_welcome.proofs.entries.reference_of.Goals as goal

pub returns-in_err-spelled : goal.returns-in_err-spelled
returns-in_err-spelled c =
    let p = err_from_is_err_and c.from_residual.result c.from_residual.ensures.1 in
    rw (p.1, p.2) (λ other. never_refused _ _ c.requires.fits c.in_err-spelled.field-0.0 c.in_err-spelled.ensures other)
