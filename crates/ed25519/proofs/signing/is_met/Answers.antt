use Rattle.std.proofs.Common.{ap, ◌∙◌}
use Rattle.std.specs.Str.{bytes_eq}
use Rattle.curve25519.specs.Curve25519.{◌+ₚ◌, multiple, base}
use Rattle.curve25519.proofs.Group.{multiple_on}
use Rattle.curve25519.proofs.Curve25519.{curve, base_on}
use Rattle.field25519.specs.Bytes.{joined}
use Rattle.ed25519.specs.Points.{negative}
use Rattle.ed25519.proofs.Opposite.{negative_on}
use Rattle.ed25519.proofs.signing.is_met.Goals as goal

pub returns : goal.returns
returns c = λ q on rep.
    let s = joined c.args.answer in
    let k = joined c.args.challenge in
    let opposite = negative_on q on in
    let bytes = c.encode-bytes.ensures (multiple base s +ₚ multiple (negative q) k)
    (c.add-sum.ensures (multiple base s) (multiple (negative q) k) (multiple_on curve base base_on s) (multiple_on curve (negative q) opposite k) c.multiply_base-first.ensures
    (c.new.ensures (multiple (negative q) k) (c.multiply_point-second.ensures (negative q) opposite (c.negate-opposite.ensures q rep)))) in
    c.eq.ensures ∙ ap (λ t. bytes_eq t c.args.commitment.now) bytes
