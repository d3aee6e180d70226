-- What leads on to a world that a list of events leaves.
use Rattle.std.proofs.Common.{ℕ, List, take, drop, Result, Ok, Err, refl, sym, ap, subst}
use Rattle.std.proofs.lemmas.List.{take-append-drop}
use Rattle.std.specs.List.{AllByRecursion}
use Rattle.mls_suite.specs.Crypto.{Crypto, Lawful}
use Rattle.mls_model.specs.declared.event.Event.{Event}
use Rattle.mls_model.specs.declared.event.Reply.{Reply}
use Rattle.mls_model.specs.Answers.{Runs}
use Rattle.mls_model.specs.Headline.{HoldsAlong}
use Rattle.mls_model.specs.EventRange.{IsInRange}
use Rattle.mls_model.specs.Run.{run}
use Rattle.mls_model.specs.World.{World}
use Rattle.mls_theorems.proofs.One.{all_parted}
use Rattle.mls_world_plain.specs.StepAnswer.{DoesStep}
use Rattle.mls_theorems.specs.Reachable.{IsReachable}
use Rattle.mls_theorems.proofs.Reachable.{runs_reach, steps_reach, headline_of_reachable}

first_ones : (n : ℕ) (events : List Event) → AllByRecursion IsInRange events → AllByRecursion IsInRange (take n events)
first_ones n events range = (all_parted IsInRange (take n events) (drop n events) (subst (AllByRecursion IsInRange) (sym (take-append-drop n events)) range)).0

-- all events of a list, or those that ran
pub reached_by_run : {E : Type 0} (c : Crypto) (events : List Event) (old new : World) (before after : List Reply) (r : Result (Unit {0}) E) →
    IsReachable c old → AllByRecursion IsInRange events → Runs c events old new before after r → IsReachable c new
reached_by_run c events old new before after (Ok x) reach range h = runs_reach c old new events reach range h.0
reached_by_run c events old new before after (Err e) reach range h = runs_reach c old new (take h.count events) reach (first_ones h.count events range) h.world

-- one event, or none
pub reached_by_step : {E : Type 0} (c : Crypto) (e : Event) (old new : World) (r : Result Reply E) → IsReachable c old → IsInRange e → DoesStep c e old new r → IsReachable c new
reached_by_step c e old new (Ok x) reach range h = steps_reach c old new e reach range (sym (ap (λ (y : Reply × World). y.1) h))
reached_by_step c e old new (Err f) reach range h = subst (IsReachable c) (sym h) reach

-- the headline holds after each event of a list
pub holds_along : (c : Crypto) → Lawful c → (events : List Event) (w : World) → IsReachable c w → AllByRecursion IsInRange events → HoldsAlong c w events
holds_along c laws events w reach range n =
    headline_of_reachable c laws (run c w (take n events)) (runs_reach c w (run c w (take n events)) (take n events) reach (first_ones n events range) refl)
