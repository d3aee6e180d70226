use Rattle.mls_exchange.proofs.Uses.{sealing_uses, opening_uses, stays_gone}
use Rattle.mls_exchange.proofs.laws.used_keys_are_gone.Goals as goal

pub returns : goal.returns
returns g c = record { sealing = sealing_uses g.S.Suite.crypto; opening = opening_uses g.S.Suite.crypto; stays = stays_gone g.S.Suite.crypto }
