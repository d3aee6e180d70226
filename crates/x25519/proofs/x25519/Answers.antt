use Rattle.std.proofs.Common.{ap, ap₂, ◌∙◌, ◌%◌, ◌^◌}
use Rattle.curve25519.specs.Field25519.{field, residue, least}
use Rattle.curve25519.specs.Ladder.{ladder}
use Rattle.curve25519.specs.X25519.{a24}
use Rattle.field25519.specs.Bytes.{encode}
use Rattle.field25519.specs.Scalars.{decode_scalar}
use Rattle.x25519.specs.Rfc7748.{decode_u}
use Rattle.x25519.proofs.Steps.{exchanged}
use Rattle.x25519.proofs.x25519.Goals as goal

pub returns : goal.returns
returns c =
    c.to_bytes.ensures
    ∙ ap encode
    (c.words.ensures
    ∙ ap least
    (exchanged 255 (decode_scalar c.args.scalar.now) (decode_u c.args.u.now) _ _
    (c.climb-end.ensures
    ∙ ap₂ (λ u n. ladder field a24 u 255 n)
    (c.from_words-point.ensures ∙ ap (λ t. residue (t % 2 ^ 255)) c.from_bytes.ensures)
    c.from_scalar.ensures)
    c.affine.ensures))
