use Rattle.std.proofs.Common.{append-nil}
use Rattle.mls_suite.specs.Glass.{glass_public}
use Rattle.mls_suite.proofs.practice.public_key.Goals as goal

pub returns : goal.returns
unfolding glass_public
returns c = rw append-nil at c.hash.ensures
