use Rattle.ed25519.proofs.Represented.{negative_is}
use Rattle.ed25519.proofs.point.ExtendedPoint.negate.Goals as goal

pub returns : goal.returns
returns c = λ q rep. negative_is q _ _ _ _ _ _ _ _ c.negate.ensures c.copy.ensures c.copy-2.ensures c.negate-2.ensures rep
