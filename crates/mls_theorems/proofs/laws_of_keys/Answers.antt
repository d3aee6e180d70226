use Rattle.mls_model.proofs.KeyLaws.{with_all_keys}
use Rattle.mls_theorems.proofs.laws_of_keys.Goals as goal
use Rattle.mls_theorems.proofs.Exact.{followed_exact, keys_next}

pub returns : goal.returns
returns c = record { written = with_all_keys; followed = followed_exact; next = keys_next }
