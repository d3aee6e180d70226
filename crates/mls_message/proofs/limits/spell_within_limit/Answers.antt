use Rattle.std.proofs.lemmas.Result.{err_from_is_err_and}
use Rattle.std.proofs.Common.{◌∙◌}
use Rattle.mls_message.proofs.Refusals.{refused_unfit, refused_past}
use Rattle.mls_message.proofs.limits.spell_within_limit.Goals as goal

pub returns-in_err-bytes : goal.returns-in_err-bytes
returns-in_err-bytes g c =
    let p = err_from_is_err_and c.from_residual.result c.from_residual.ensures.1 in
    rw (p.1, p.2) (refused_unfit (g.T.Codec.format.spell c.args.value.now) (g.T.Codec.format.Fits c.args.value.now) c.in_err-bytes.field-0.0 c.requires c.in_err-bytes.ensures)

pub returns-in_err-require_room : goal.returns-in_err-require_room
returns-in_err-require_room g c =
    let p = err_from_is_err_and c.from_residual-in_err-require_room.result c.from_residual-in_err-require_room.ensures.1 in
    rw (p.1, p.2) (refused_past (g.T.Codec.format.spell c.args.value.now) c.deref.result.now c.in_err-require_room.field-0.0 (c.deref.ensures.value ∙ c.in_ok-bytes.ensures.spelled) c.in_err-require_room.ensures.0 c.in_err-require_room.ensures.1)
