use Rattle.mls_theorems.proofs.laws_of_members.Goals as goal
use Rattle.mls_theorems.proofs.Names.{names_stable}
use Rattle.mls_theorems.proofs.Leaves.{own_leaves}

pub returns : goal.returns
returns c = record { names = names_stable; leaves = own_leaves }
