use Rattle.ed25519.proofs.UniqueBytes.{encode-decoded}
use Rattle.ed25519.proofs.laws.encodes_decoded.Goals as goal

pub returns : goal.returns
returns c = encode-decoded
