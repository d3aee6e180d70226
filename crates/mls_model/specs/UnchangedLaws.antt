-- What deliveries and joins leave as it was, in every world.
use Rattle.mls_suite.specs.Crypto.{Crypto}
use Rattle.mls_model.specs.Headline.{DeliveriesKeepOthers, JoinsKeepMembers}
use Rattle.mls_model.specs.World.{World}

-- in every world a delivery changes nobody but its member
abbrev pub OthersAreKept : Type 0
OthersAreKept = (c : Crypto) (w : World) → DeliveriesKeepOthers c w

-- in every world a join changes no member
abbrev pub MembersAreKept : Type 0
MembersAreKept = (c : Crypto) (w : World) → JoinsKeepMembers c w
