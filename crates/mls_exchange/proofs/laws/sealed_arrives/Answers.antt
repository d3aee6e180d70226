use Rattle.mls_exchange.proofs.Arriving.{sealed_arrives}
use Rattle.mls_exchange.proofs.laws.sealed_arrives.Goals as goal

pub returns : goal.returns
returns g c = sealed_arrives g.S.Suite.crypto g.met.S.Suite.lawful
