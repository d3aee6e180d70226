use Rattle.mls_theorems.proofs.laws_of_entries_that_lead.Goals as goal
use Rattle.mls_theorems.proofs.Makes.{make_did}

pub returns : goal.returns
returns c = record { made = make_did }
