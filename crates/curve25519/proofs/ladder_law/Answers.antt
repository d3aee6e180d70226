use Rattle.curve25519.proofs.X25519.{ladder_law}
use Rattle.curve25519.proofs.ladder_law.Goals as goal

pub returns : goal.returns
returns c = ladder_law
