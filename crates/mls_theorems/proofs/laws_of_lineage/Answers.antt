use Rattle.mls_theorems.proofs.laws_of_lineage.Goals as goal
use Rattle.mls_theorems.proofs.Past.{past_grows, past_along}
use Rattle.mls_theorems.proofs.Secrets.{same_secret}

pub returns : goal.returns
returns c = record { grows = past_grows; along = past_along; secret = same_secret }
