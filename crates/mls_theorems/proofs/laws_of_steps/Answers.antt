use Rattle.mls_theorems.proofs.laws_of_steps.Goals as goal
use Rattle.mls_theorems.proofs.Inversion.{edited_steps, with_path_steps, body_steps}

pub returns : goal.returns
returns c = record { edited = edited_steps; with_path = with_path_steps; body = body_steps }
