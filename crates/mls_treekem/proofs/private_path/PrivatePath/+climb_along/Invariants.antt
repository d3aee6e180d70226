use Rattle.std.proofs.Common.{length}
use Rattle.mls_treekem.proofs.private_path.PrivatePath.+climb_along.Given as goal

abbrev pub decreases-climb_along : goal.decreases-climb_along
decreases-climb_along g l = length l.places.now
