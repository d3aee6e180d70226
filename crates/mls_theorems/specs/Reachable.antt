-- Worlds that a list of events leaves, from the empty world on: what a type of worlds can keep as its invariant.
use Rattle.std.specs.Prelude.{◌≡◌, List}
use Rattle.std.specs.List.{AllByRecursion}
use Rattle.mls_suite.specs.Crypto.{Crypto, Lawful}
use Rattle.mls_model.specs.declared.event.Event.{Event}
use Rattle.mls_model.specs.Headline.{Headline}
use Rattle.mls_model.specs.EventRange.{IsInRange}
use Rattle.mls_model.specs.Run.{step, run}
use Rattle.mls_model.specs.World.{World, empty_world}

-- a list of events in range leaves this world
pub record IsReachable (c : Crypto) (w : World) : Type 0 where
  pub events : List Event
  pub range : AllByRecursion IsInRange events
  pub is : w ≡ run c empty_world events

-- no event leaves the empty world
abbrev pub EmptyIsReachable : Type 0
EmptyIsReachable = (c : Crypto) → IsReachable c empty_world

-- a list of events leads from a reachable world to a reachable one
abbrev pub RunsReach : Type 0
RunsReach = (c : Crypto) (w v : World) (events : List Event) → IsReachable c w → AllByRecursion IsInRange events →
    v ≡ run c w events → IsReachable c v

-- one event leads from a reachable world to a reachable one
abbrev pub StepsReach : Type 0
StepsReach = (c : Crypto) (w v : World) (e : Event) → IsReachable c w → IsInRange e → v ≡ (step c w e).1 →
    IsReachable c v

-- the headline holds of each reachable world
abbrev pub HeadlineOfReachable : Type 0
HeadlineOfReachable = (c : Crypto) → Lawful c → (w : World) → IsReachable c w → Headline c w
