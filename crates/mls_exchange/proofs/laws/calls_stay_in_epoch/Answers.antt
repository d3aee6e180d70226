use Rattle.mls_exchange.proofs.Uses.{calls_stay}
use Rattle.mls_exchange.proofs.laws.calls_stay_in_epoch.Goals as goal

pub returns : goal.returns
returns g c = calls_stay g.S.Suite.crypto
