use Rattle.aes128gcm.proofs.GcmLaws.{opens_sealed}
use Rattle.aes128gcm.proofs.laws.opens_sealed.Goals as goal

pub returns : goal.returns
returns c = opens_sealed
