use Rattle.x25519.proofs.Bytes.{exchange_law}
use Rattle.x25519.proofs.laws.exchange_law.Goals as goal

pub returns : goal.returns
returns c = exchange_law
