use Rattle.mls_exchange.proofs.Genuine.{is_opening}
use Rattle.mls_exchange.proofs.laws.opened_is_genuine.Goals as goal

pub returns : goal.returns
returns g c = λ s after bytes o e. (is_opening g.S.Suite.crypto s bytes o after e).genuine
