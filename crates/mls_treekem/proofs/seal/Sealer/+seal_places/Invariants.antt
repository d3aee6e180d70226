use Rattle.std.proofs.Common.{length}
use Rattle.mls_treekem.proofs.seal.Sealer.+seal_places.Given as goal

abbrev pub decreases-seal_places : goal.decreases-seal_places
decreases-seal_places g l = length l.places.now
