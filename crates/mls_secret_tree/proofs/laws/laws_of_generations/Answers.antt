use Rattle.mls_secret_tree.proofs.Generations.{use_moves_on, next_never_falls}
use Rattle.mls_secret_tree.proofs.laws.laws_of_generations.Goals as goal

pub returns : goal.returns
returns c = record { moves_on = use_moves_on; never_falls = next_never_falls }
