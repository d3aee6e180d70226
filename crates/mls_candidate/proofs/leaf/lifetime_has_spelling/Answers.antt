use Rattle.std.proofs.Common.{arith}
use Rattle.mls_candidate.proofs.LeafLaws.{lifetime_fits}
use Rattle.mls_candidate.proofs.leaf.lifetime_has_spelling.Goals as goal

pub returns : goal.returns
returns c = lifetime_fits c.args.not_before c.args.not_after (omega (arith, c.ranges.not_before.fits)) (omega (arith, c.ranges.not_after.fits))
