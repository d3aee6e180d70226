use Rattle.std.proofs.Common.{◌^◌}
use Rattle.mls_candidate.proofs.Packages.{leaf_below}
use Rattle.mls_candidate.proofs.candidate.Candidate.leaf_node.Goals as goal

pub returns-clause-below : goal.returns-clause-below
returns-clause-below g c = leaf_below (2 ^ 27) c.self.inside.offered c.self.invariant.1
