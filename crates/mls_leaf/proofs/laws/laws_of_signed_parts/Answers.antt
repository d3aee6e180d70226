use Rattle.mls_leaf.proofs.InputLaws.{leaf_node-spelled, key_package-spelled}
use Rattle.mls_leaf.proofs.laws.laws_of_signed_parts.Goals as goal

pub returns : goal.returns
returns c = record { leaf = leaf_node-spelled; key_package = key_package-spelled }
