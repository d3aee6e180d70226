use Rattle.std.proofs.Common.{ap₂, ◌∙◌}
use Rattle.curve25519.specs.Field25519.{field}
use Rattle.ed25519.specs.Coordinates.{coordinates}
use Rattle.ed25519.proofs.Addition.{added}
use Rattle.ed25519.proofs.point.ExtendedPoint.add.Goals as goal

pub returns : goal.returns
returns c = λ p q on on' rep cached.
    added (coordinates c.from_factors.result) (coordinates c.args.self.now) p q c.args.other.now.sum c.args.other.now.difference c.args.other.now.z c.args.other.now.product
    _ _ _ _ _ _ _ _ on on' rep cached
    (c.multiply-a.ensures ∙ ap₂ field.mul c.subtract.ensures c.loose.ensures) (c.multiply-b.ensures ∙ ap₂ field.mul c.add.ensures c.loose-2.ensures)
    c.multiply-c.ensures c.multiply-d.ensures c.subtract-2.ensures c.subtract-3.ensures c.add-2.ensures c.add-3.ensures c.from_factors.ensures
