use Rattle.std.proofs.Common.{◌≢◌, ℕ, suc, ◌<◌, get_or}
use Rattle.mls_public_group.proofs.distinct.neighbours_differ.Given as goal

abbrev pub invariant-loop-k : goal.invariant-loop-k
invariant-loop-k l = (j : ℕ) → suc j < l.k → get_or l.numbers j 0 ≢ get_or l.numbers (suc j) 0
