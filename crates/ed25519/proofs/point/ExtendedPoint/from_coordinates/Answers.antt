use Rattle.ed25519.proofs.Represented.{affine_is}
use Rattle.ed25519.proofs.point.ExtendedPoint.from_coordinates.Goals as goal

pub returns : goal.returns
returns c = affine_is c.args.x c.args.y _ _ c.small.ensures c.multiply-t.ensures
