use Rattle.std.proofs.Common.{length}
use Rattle.mls_treekem.proofs.private_path.PrivatePath.+push_kept_keys.Given as goal

abbrev pub decreases-push_kept_keys : goal.decreases-push_kept_keys
decreases-push_kept_keys l = length l.places.now
