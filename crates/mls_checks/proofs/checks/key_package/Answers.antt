use Rattle.mls_checks.proofs.SignedLaws.{leaf_is_short}
use Rattle.mls_checks.proofs.checks.key_package.Goals as goal

pub leaf_signed-requires-clause-leaf : goal.leaf_signed-requires-clause-leaf
leaf_signed-requires-clause-leaf g c = leaf_is_short c.args.offered.now c.requires
