use Rattle.std.proofs.Common.{length}
use Rattle.mls_tree_index.proofs.index.Index.+leave_all.Given as goal

abbrev pub decreases-leave_all : goal.decreases-leave_all
decreases-leave_all l = length l.places.now
