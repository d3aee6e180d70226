use Rattle.mls_theorems.proofs.laws_of_journals.Goals as goal
use Rattle.mls_theorems.proofs.Journals.{public_agreement, secret_agreement, creations_along, joins_along, joins_here_along, deliveries_along, states_along, calls_keep_state}

pub returns : goal.returns
returns c = record { public = public_agreement; secret = secret_agreement; creations = creations_along; joins = joins_along; joins_here = joins_here_along; deliveries = deliveries_along; states = states_along; calls = calls_keep_state }
