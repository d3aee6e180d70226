use Rattle.std.proofs.Common.{length}
use Rattle.mls_treekem.proofs.joiner.+filtered_count.Given as goal

abbrev pub decreases-filtered_count : goal.decreases-filtered_count
decreases-filtered_count l = length l.places.now
