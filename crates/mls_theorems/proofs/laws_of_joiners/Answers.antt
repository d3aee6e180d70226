use Rattle.mls_theorems.proofs.laws_of_joiners.Goals as goal
use Rattle.mls_theorems.proofs.Joiners.{joiners_hold}

pub returns : goal.returns
returns c = record { claim = joiners_hold }
