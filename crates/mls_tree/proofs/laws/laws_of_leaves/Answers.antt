use Rattle.mls_tree.proofs.laws.laws_of_leaves.Goals as goal
use Rattle.mls_tree.proofs.FitLaws.{package_fit, replacement_fit}

pub returns : goal.returns
returns c = record { package_fit = package_fit; replacement_fit = replacement_fit }
