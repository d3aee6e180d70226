use Rattle.mls_theorems.proofs.laws_of_reachable_worlds.Goals as goal
use Rattle.mls_theorems.proofs.Reachable.{empty_reachable, steps_reach, runs_reach, headline_of_reachable}

pub returns : goal.returns
returns c = record { empty = empty_reachable; steps = steps_reach; runs = runs_reach; headline = headline_of_reachable }
