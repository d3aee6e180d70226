use Rattle.mls_theorems.proofs.laws_of_entries.Goals as goal
use Rattle.mls_theorems.proofs.CommitEntries.{received_along, made_along}
use Rattle.mls_theorems.proofs.Pends.{made_pends}

pub returns : goal.returns
returns c = record { received = received_along; made = made_along; pends = made_pends }
