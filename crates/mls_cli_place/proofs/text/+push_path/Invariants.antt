use Rattle.std.proofs.Common.{length}
use Rattle.mls_cli_place.proofs.text.+push_path.Given as goal

abbrev pub decreases-push_path : goal.decreases-push_path
decreases-push_path l = length l.path.now
