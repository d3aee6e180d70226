use Rattle.mls_treemath.proofs.Lowest.{common_ancestor_is_lowest}
use Rattle.mls_treemath.proofs.laws.laws_of_common_ancestors.Goals as goal

pub returns : goal.returns
returns c = common_ancestor_is_lowest
