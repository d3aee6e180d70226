use Rattle.std.proofs.Common.{subst}
use Rattle.curve25519.proofs.Group.{stays}
use Rattle.curve25519.proofs.Curve25519.{curve}
use Rattle.ed25519.specs.Coordinates.{Caches}
use Rattle.ed25519.proofs.Steps.{once, twice, thrice}
use Rattle.ed25519.proofs.point_multiple.SmallMultiples.new.Goals as goal

pub returns : goal.returns
returns c = λ q on rep. (
  subst (Caches c.new-one.result) (once q) (c.new-one.ensures q rep),
  subst (Caches c.new.result) (twice q) (c.new.ensures _ (c.double-twice.ensures q on rep)),
  subst (Caches c.new-2.result) (thrice q) (c.new-2.ensures _ (c.add-thrice.ensures _ q (stays curve q q on on) on (c.double-twice.ensures q on rep) (c.new-one.ensures q rep))),
)
