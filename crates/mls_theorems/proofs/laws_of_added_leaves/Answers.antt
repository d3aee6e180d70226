use Rattle.mls_theorems.proofs.laws_of_added_leaves.Goals as goal
use Rattle.mls_theorems.proofs.Joining.{edits_add, adds_counted}

pub returns : goal.returns
returns c = record { add = edits_add; count = adds_counted }
