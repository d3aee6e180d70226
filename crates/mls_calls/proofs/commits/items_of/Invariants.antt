use Rattle.std.proofs.Common.{length}
use Rattle.mls_calls.proofs.Listing.{AreTaken}
use Rattle.mls_calls.proofs.commits.items_of.Given as goal

abbrev pub invariant-loop-listed : goal.invariant-loop-listed
invariant-loop-listed l = AreTaken l.list l.rest l.items.items

abbrev pub decreases-loop-listed : goal.decreases-loop-listed
decreases-loop-listed l = length l.rest
