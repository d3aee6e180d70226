use Rattle.mls_exchange.proofs.Generations.{next_never_falls, opened_lies_behind, seals_later}
use Rattle.mls_exchange.proofs.laws.generations_never_fall.Goals as goal

pub returns : goal.returns
returns g c = record { next = next_never_falls g.S.Suite.crypto; opened = opened_lies_behind g.S.Suite.crypto; sealed = seals_later g.S.Suite.crypto }
