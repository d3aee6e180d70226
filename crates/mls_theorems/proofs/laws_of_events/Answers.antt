use Rattle.mls_theorems.proofs.laws_of_events.Goals as goal
use Rattle.mls_theorems.proofs.Runs.{empty_good, events_keep_good, runs_keep_good}

pub returns : goal.returns
returns c = record { empty = empty_good; events = events_keep_good; runs = runs_keep_good }
