use Rattle.curve25519.proofs.Field25519.{mul-inv}
use Rattle.curve25519.proofs.inverse_law.Goals as goal

pub returns : goal.returns
returns c = mul-inv
