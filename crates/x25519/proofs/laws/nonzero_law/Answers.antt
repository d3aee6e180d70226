use Rattle.x25519.proofs.Bytes.{nonzero_law}
use Rattle.x25519.proofs.laws.nonzero_law.Goals as goal

pub returns : goal.returns
returns c = nonzero_law
