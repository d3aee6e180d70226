use Rattle.std.proofs.Common.{length}
use Rattle.mls_tree_index.proofs.index.Index.+enter_all.Given as goal

abbrev pub decreases-enter_all : goal.decreases-enter_all
decreases-enter_all l = length l.places.now
