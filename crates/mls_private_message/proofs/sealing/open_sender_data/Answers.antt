use Rattle.std.proofs.lemmas.Result.{err_from_is_err_and}
use Rattle.mls_private_message.proofs.Opening.{no_long_group}
use Rattle.mls_private_message.proofs.sealing.open_sender_data.Goals as goal

pub returns-in_err-aad : goal.returns-in_err-aad
returns-in_err-aad g c =
    let p = err_from_is_err_and c.from_residual.result c.from_residual.ensures.1 in
    rw (p.1, p.2) (λ other. absurd (other (no_long_group c.args.message.now c.requires _ c.as_slice-group_id.ensures _ c.in_err-aad.ensures)))
