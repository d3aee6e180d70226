use Rattle.std.proofs.Common.{ap, ap₂, ◌∙◌}
use Rattle.curve25519.specs.Field25519.{field, residue}
use Rattle.curve25519.proofs.Field25519.{residue-one}
use Rattle.ed25519.specs.Coordinates.{coordinates, of_factors}
use Rattle.ed25519.proofs.Addition.{doubled}
use Rattle.ed25519.proofs.point.ExtendedPoint.double.Goals as goal

pub returns : goal.returns
returns c = λ q on rep.
    doubled (coordinates c.from_factors.result) (coordinates c.args.self.now) q _ _ _ _ (residue 1) c.scale-g.result _ _ _ on rep
    c.square-a.ensures c.square-b.ensures (c.multiply-c.ensures ∙ ap₂ field.mul c.loose.ensures c.add.ensures) c.multiply-d.ensures residue-one
    (c.scale-g.ensures ∙ ap (field.mul (residue 1)) c.subtract.ensures) c.add-2.ensures c.subtract-2.ensures c.add-3.ensures
    (c.from_factors.ensures ∙ ap (λ g. of_factors c.add-2.result c.subtract-2.result g c.add-3.result) c.loose-2.ensures)
