use Rattle.std.proofs.Common.{arith}
use Rattle.mls_public_group.proofs.ShortProposal.{removal_short}
use Rattle.mls_member.proofs.commit_items.know_removal.Goals as goal

pub returns : goal.returns
returns c = removal_short c.args.leaf (omega (arith, c.ranges.leaf.fits))
