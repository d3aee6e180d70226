use Rattle.x25519.proofs.Bytes.{high_order_law}
use Rattle.x25519.proofs.laws.high_order_law.Goals as goal

pub returns : goal.returns
returns c = high_order_law
