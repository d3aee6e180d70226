use Rattle.curve25519.proofs.X25519.{exchange_law}
use Rattle.curve25519.proofs.exchange_law.Goals as goal

pub returns : goal.returns
returns c = exchange_law
