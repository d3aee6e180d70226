use Rattle.ed25519.specs.Coordinates.{Represents}
use Rattle.ed25519.proofs.Branches.{with_height}
use Rattle.ed25519.proofs.decoding.with_y.Goals as goal

pub returns-then-equals : goal.returns-then-equals
returns-then-equals c =
    with_height Represents c.choose_sign.result c.square_root-x.result c.args.y.now c.x_squared-z.result c.square-square.result c.args.sign _
    c.x_squared-z.ensures c.square_root-x.ensures c.square-square.ensures c.equals.ensures c.if-equals.true c.choose_sign.ensures
