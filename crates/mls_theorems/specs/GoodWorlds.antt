-- A good world is kept by each event, and so by each list of events.
use Rattle.std.specs.Prelude.{◌≡◌, List, Ok}
use Rattle.std.specs.List.{AllByRecursion}
use Rattle.mls_suite.specs.Crypto.{Crypto, Lawful}
use Rattle.mls_model.specs.declared.event.Event.{Event}
use Rattle.mls_model.specs.declared.event.Reply.{Reply}
use Rattle.mls_model.specs.Invariant.{IsGoodWorld}
use Rattle.mls_model.specs.EventRange.{IsInRange}
use Rattle.mls_model.specs.Run.{answer, run}
use Rattle.mls_model.specs.World.{World, empty_world}

abbrev pub EmptyWorldGood : Type 0
EmptyWorldGood = (c : Crypto) → IsGoodWorld c empty_world

abbrev pub EventsKeepGood : Type 0
EventsKeepGood = (c : Crypto) → Lawful c → (w : World) → IsGoodWorld c w → (e : Event) → IsInRange e →
    (x : Reply × World) → answer c w e ≡ Ok x → IsGoodWorld c x.1

-- Each world that a list of events leaves is good, where the world before is.
abbrev pub RunsKeepGood : Type 0
RunsKeepGood = (c : Crypto) → Lawful c → (w : World) → IsGoodWorld c w → (events : List Event) →
    AllByRecursion IsInRange events → IsGoodWorld c (run c w events)
