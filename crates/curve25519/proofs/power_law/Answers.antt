use Rattle.curve25519.proofs.Field25519.{power_law}
use Rattle.curve25519.proofs.power_law.Goals as goal

pub returns : goal.returns
returns c = power_law
