use Rattle.mls_treekem_model.proofs.laws_of_holding.Goals as goal
use Rattle.mls_treekem_model.proofs.HoldingLaws.{exact_is_held, held_is_exact}

pub returns : goal.returns
returns c = record { held = exact_is_held; exact = held_is_exact }
