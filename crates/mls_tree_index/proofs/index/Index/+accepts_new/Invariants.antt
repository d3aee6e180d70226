use Rattle.std.proofs.Common.{length}
use Rattle.mls_tree_index.proofs.index.Index.+accepts_new.Given as goal

abbrev pub decreases-accepts_new : goal.decreases-accepts_new
decreases-accepts_new l = length l.keys.now
