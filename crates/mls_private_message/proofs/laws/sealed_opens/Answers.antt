use Rattle.mls_private_message.proofs.Sealed.{opens}
use Rattle.mls_private_message.proofs.laws.sealed_opens.Goals as goal

pub returns : goal.returns
returns g c = opens g.S.Suite.crypto g.met.S.Suite.lawful
