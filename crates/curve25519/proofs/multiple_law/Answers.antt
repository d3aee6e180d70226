use Rattle.curve25519.proofs.Curve25519.{multiple_law}
use Rattle.curve25519.proofs.multiple_law.Goals as goal

pub returns : goal.returns
returns c = multiple_law
