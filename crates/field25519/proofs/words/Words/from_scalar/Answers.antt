use Rattle.std.proofs.Common.{sym, ap, ◌∙◌}
use Rattle.field25519.proofs.Scalars.{clamped, decode_scalar_of_bytes}
use Rattle.field25519.proofs.words.Words.from_scalar.Goals as goal

pub returns : goal.returns
returns c =
    c.clamp.ensures ∙ ap clamped c.from_bytes.ensures ∙ sym (decode_scalar_of_bytes c.args.bytes.now c.fits-bytes)
