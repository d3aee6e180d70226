use Rattle.mls_exchange.proofs.Generations.{stays_held, arrives_in_any_order}
use Rattle.mls_exchange.proofs.laws.arrives_in_any_order.Goals as goal

pub returns : goal.returns
returns g c = record { stays = stays_held g.S.Suite.crypto; arrives = arrives_in_any_order g.S.Suite.crypto g.met.S.Suite.lawful }
