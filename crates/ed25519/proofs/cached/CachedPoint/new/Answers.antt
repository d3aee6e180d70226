use Rattle.std.proofs.Common.{ap, ap₂, ◌∙◌}
use Rattle.curve25519.specs.Field25519.{field}
use Rattle.ed25519.specs.Coordinates.{coordinates}
use Rattle.ed25519.proofs.Addition.{cached_is}
use Rattle.ed25519.proofs.cached.CachedPoint.new.Goals as goal

pub returns : goal.returns
returns c = λ q rep.
    cached_is (coordinates c.args.point.now) q c.half-factor.result _ _ _ _ rep c.half-factor.ensures
    (c.multiply.ensures ∙ ap₂ field.mul c.add.ensures c.loose.ensures)
    (c.multiply-2.ensures ∙ ap₂ field.mul c.subtract.ensures c.loose-2.ensures)
    c.copy.ensures
    (c.multiply-3.ensures ∙ ap (λ t. field.mul t c.args.point.now.t) c.curve_constant-constant.ensures)
