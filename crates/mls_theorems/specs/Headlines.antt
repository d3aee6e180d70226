-- The headline: what holds of each world that a list of events leaves.
use Rattle.mls_suite.specs.Crypto.{Crypto, Lawful}
use Rattle.mls_model.specs.Headline.{Headline}
use Rattle.mls_model.specs.Invariant.{IsGoodWorld}
use Rattle.mls_model.specs.World.{World}

-- the headline holds of each good world
abbrev pub HeadlineOfGood : Type 0
HeadlineOfGood = (c : Crypto) → Lawful c → (w : World) → IsGoodWorld c w → Headline c w
