use Rattle.mls_exchange.proofs.Generations.{opens_once}
use Rattle.mls_exchange.proofs.laws.opens_once.Goals as goal

pub returns : goal.returns
returns g c = opens_once g.S.Suite.crypto
