use Rattle.curve25519.proofs.Group.{multiple_on, stays}
use Rattle.curve25519.proofs.Curve25519.{curve}
use Rattle.ed25519.proofs.Addition.{four_times}
use Rattle.ed25519.proofs.point.ExtendedPoint.quadruple.Goals as goal

pub returns : goal.returns
returns c = λ q m on rep. four_times _ q m on (c.double-2.ensures _ (stays curve _ _ (multiple_on curve q on m) (multiple_on curve q on m)) (c.double.ensures _ (multiple_on curve q on m) rep))
