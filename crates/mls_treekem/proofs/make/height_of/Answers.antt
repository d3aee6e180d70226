use Rattle.std.proofs.Common.{sym, ap, unwrap_or}
use Rattle.mls_treekem.proofs.KeysAtHeights.{below_32}
use Rattle.mls_treekem.proofs.make.height_of.Goals as goal

pub returns : goal.returns
returns c = sym (ap (λ o. unwrap_or o 0) (c.level.ensures 32 (below_32 c.args.node c.ranges.node.fits)))
