use Rattle.std.proofs.Common.{ap, ◌∙◌, ◌%◌, ◌^◌}
use Rattle.curve25519.specs.Field25519.{field, residue, least}
use Rattle.curve25519.specs.Ladder.{ladder}
use Rattle.curve25519.specs.X25519.{a24}
use Rattle.field25519.specs.Bytes.{encode}
use Rattle.x25519.specs.Rfc7748.{decode_u}
use Rattle.x25519.proofs.Steps.{exchanged}
use Rattle.x25519.proofs.clear_cofactor.Goals as goal

pub returns : goal.returns
returns c =
    c.to_bytes.ensures
    ∙ ap encode
    (c.words.ensures
    ∙ ap least
    (exchanged 4 8 (decode_u c.args.u.now) _ _
    (c.eight_times-end.ensures
    ∙ ap (λ u. ladder field a24 u 4 8)
    (c.from_words-point.ensures ∙ ap (λ t. residue (t % 2 ^ 255)) c.from_bytes.ensures))
    c.affine.ensures))
