use Rattle.mls_tree.proofs.Costs.{few_hashes}
use Rattle.mls_tree.proofs.laws.hashing_costs.Goals as goal

pub returns : goal.returns
returns c = few_hashes
