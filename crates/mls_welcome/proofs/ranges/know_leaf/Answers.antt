use Rattle.mls_welcome.proofs.Fitting.{leaf_fit}
use Rattle.mls_welcome.proofs.ranges.know_leaf.Goals as goal

pub returns : goal.returns
returns c = leaf_fit c.args.leaf.now c.know_capabilities.ensures c.know_source.ensures
