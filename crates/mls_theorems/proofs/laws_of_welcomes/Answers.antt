use Rattle.mls_theorems.proofs.laws_of_welcomes.Goals as goal
use Rattle.mls_theorems.proofs.Welcomed.{welcome_did, welcome_reads, secrets_open, welcome_opens}
use Rattle.mls_theorems.proofs.JoinChecks.{tree_is_taken, signer_passes, joins_at}
use Rattle.mls_theorems.proofs.JoinerKeys.{keys_taken}

pub returns : goal.returns
returns c = record { made = welcome_did; reads = welcome_reads; secrets = secrets_open; opens = welcome_opens; tree = tree_is_taken; signer = signer_passes; joins = joins_at; keys = keys_taken }
