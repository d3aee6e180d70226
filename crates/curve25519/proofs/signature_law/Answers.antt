use Rattle.curve25519.proofs.Order.{signature_law}
use Rattle.curve25519.proofs.signature_law.Goals as goal

pub returns : goal.returns
returns c = signature_law
