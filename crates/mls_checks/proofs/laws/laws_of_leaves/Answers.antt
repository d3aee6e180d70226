use Rattle.mls_checks.proofs.laws.laws_of_leaves.Goals as goal
use Rattle.mls_checks.proofs.LeafLaws.{signed_anywhere, package_steps, replaced_steps}

pub returns : goal.returns
returns c =
    record {
      anywhere = signed_anywhere;
      offered = package_steps;
      replaced = replaced_steps;
    }
