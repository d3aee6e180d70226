use Rattle.x25519.proofs.Bytes.{decode_nine}
use Rattle.x25519.proofs.laws.nine_law.Goals as goal

pub returns : goal.returns
returns c = decode_nine
