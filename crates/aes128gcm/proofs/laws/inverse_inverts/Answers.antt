use Rattle.aes128gcm.proofs.InverseLemmas.{inverse_inverts}
use Rattle.aes128gcm.proofs.laws.inverse_inverts.Goals as goal

pub returns : goal.returns
returns c = inverse_inverts
