use Rattle.mls_world_plain.proofs.Listing.{NoneBefore}
use Rattle.mls_world_plain.proofs.joins.first_making_for.Given as goal

abbrev pub invariant-loop-i : goal.invariant-loop-i
invariant-loop-i l = NoneBefore l.made l.source l.offered l.i
