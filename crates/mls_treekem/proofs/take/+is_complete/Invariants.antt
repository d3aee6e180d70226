use Rattle.std.proofs.Common.{length}
use Rattle.mls_treekem.proofs.take.+is_complete.Given as goal

abbrev pub decreases-is_complete : goal.decreases-is_complete
decreases-is_complete l = length l.places.now
