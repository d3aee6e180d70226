use Rattle.std.proofs.Common.{◌^◌, ap, length, arith}
use Rattle.std.proofs.lemmas.Result.{err_from_is_err_and}
use Rattle.mls_public_group.proofs.Memory.{memory_alone}
use Rattle.mls_join.proofs.Lengths.{parts_below}
use Rattle.mls_join.proofs.signer.to_be_signed.Goals as goal

pub returns-in_err-bytes-clause-bytes : goal.returns-in_err-bytes-clause-bytes
returns-in_err-bytes-clause-bytes c =
    let p = err_from_is_err_and c.from_residual.result c.from_residual.ensures.1 in
    rw (p.1, p.2) (memory_alone _ c.in_err-bytes.field-0.0 (parts_below (2 ^ 27) c.args.info.now c.requires).fits c.in_err-bytes.ensures)

pub returns-clause-short : goal.returns-clause-short
returns-clause-short c =
    let parts = parts_below (2 ^ 27) c.args.info.now c.requires in
    omega (arith, parts.below, ap length c.in_ok-bytes.ensures.1)
