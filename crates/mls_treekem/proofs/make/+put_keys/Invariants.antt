use Rattle.std.proofs.Common.{length}
use Rattle.mls_treekem.proofs.make.+put_keys.Given as goal

abbrev pub decreases-put_keys : goal.decreases-put_keys
decreases-put_keys l = length l.nodes.now
