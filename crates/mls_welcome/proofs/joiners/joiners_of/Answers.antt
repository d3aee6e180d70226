use Rattle.std.proofs.Common.{arith}
use Rattle.std.proofs.lemmas.Grind.{common_steps}
use Rattle.mls_model.specs.Proposals.{adds}
use Rattle.mls_welcome.proofs.joiners.joiners_of.Goals as goal

pub returns-clause-places : goal.returns-clause-places
unfolding adds
returns-clause-places c = let h = c.loop-u.invariant.0 in grind (arith, common_steps)
