use Rattle.mls_theorems.proofs.laws_of_homemade_journals.Goals as goal
use Rattle.mls_theorems.proofs.Homemade.{homemade_is_made, made_is_homemade}

pub returns : goal.returns
returns c = record { made = homemade_is_made; homemade = made_is_homemade }
