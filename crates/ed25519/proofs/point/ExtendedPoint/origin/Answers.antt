use Rattle.ed25519.proofs.Represented.{origin_is}
use Rattle.ed25519.proofs.point.ExtendedPoint.origin.Goals as goal

pub returns : goal.returns
returns c = origin_is _ _ _ _ c.small.ensures c.small-2.ensures c.small-3.ensures c.small-4.ensures
