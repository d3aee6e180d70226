use Rattle.std.proofs.Common.{length}
use Rattle.mls_treekem.proofs.secrets.PathSecrets.+secret_over.Given as goal

abbrev pub decreases-secret_over : goal.decreases-secret_over
decreases-secret_over l = length l.places.now
