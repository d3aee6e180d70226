use Rattle.ed25519.proofs.Verified.{signed}
use Rattle.ed25519.proofs.laws.verifies_signed.Goals as goal

pub returns : goal.returns
returns c = signed
