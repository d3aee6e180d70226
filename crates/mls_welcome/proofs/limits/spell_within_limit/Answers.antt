use Rattle.std.proofs.lemmas.Result.{err_from_is_err_and}
use Rattle.mls_welcome.proofs.Measured.{refused_long}
use Rattle.mls_welcome.proofs.limits.spell_within_limit.Goals as goal

pub returns-in_err-bytes : goal.returns-in_err-bytes
returns-in_err-bytes g c =
    let p = err_from_is_err_and c.from_residual.result c.from_residual.ensures.1 in
    rw (p.1, p.2) (λ other. refused_long g.T.Codec.format c.args.value.now c.requires c.in_err-bytes.field-0.0 c.in_err-bytes.ensures other)
