use Rattle.ed25519.proofs.RoundTrip.{decode-encode}
use Rattle.ed25519.proofs.laws.decodes_encoded.Goals as goal

pub returns : goal.returns
returns c = decode-encode
