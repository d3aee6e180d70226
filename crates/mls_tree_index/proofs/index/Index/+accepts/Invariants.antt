use Rattle.std.proofs.Common.{length}
use Rattle.mls_tree_index.proofs.index.Index.+accepts.Given as goal

abbrev pub decreases-accepts : goal.decreases-accepts
decreases-accepts l = length l.keys.now
