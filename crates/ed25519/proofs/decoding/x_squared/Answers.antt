use Rattle.std.proofs.Common.{ap, ap₂, ◌∙◌}
use Rattle.curve25519.specs.Field25519.{field}
use Rattle.ed25519.proofs.Branches.{x_squared_is}
use Rattle.ed25519.proofs.decoding.x_squared.Goals as goal
open field use {mul}

pub returns : goal.returns
returns c =
    x_squared_is _ _ _ _ _ _ c.small-one.ensures c.square-square.ensures (c.multiply-product.ensures ∙ ap (λ t. mul t c.square-square.result) c.curve_constant-constant.ensures)
    (c.multiply-under.ensures ∙ ap₂ mul c.add.ensures c.loose.ensures) (c.multiply.ensures ∙ ap₂ mul c.subtract.ensures (c.loose-2.ensures ∙ c.invert-inverse.ensures))
