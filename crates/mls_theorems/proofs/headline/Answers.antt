use Rattle.mls_theorems.proofs.headline.Goals as goal
use Rattle.mls_theorems.proofs.Headlines.{headline_of_good, holds_on_runs}

pub returns : goal.returns
returns c = record { good = headline_of_good; runs = holds_on_runs }
