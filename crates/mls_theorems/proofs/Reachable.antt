-- Worlds that a list of events leaves, from the empty world on: what a type of worlds can keep as its invariant.
use Rattle.std.proofs.Common.{◌≡◌, [], ◌∷◌, ◌++◌, refl, sym, ap, subst, ◌∙◌}
use Rattle.mls_suite.specs.Crypto.{Crypto}
use Rattle.mls_model.specs.declared.event.Event.{Event}
use Rattle.mls_model.specs.Headline.{Headline}
use Rattle.mls_model.specs.EventRange.{IsInRange}
use Rattle.mls_model.specs.Run.{step, run}
use Rattle.mls_model.proofs.RunLaws.{run_in_parts}
use Rattle.mls_model.specs.World.{World, empty_world}
use Rattle.mls_theorems.proofs.One.{all_both}
use Rattle.mls_theorems.proofs.Headlines.{holds_on_runs}
use Rattle.mls_theorems.specs.Reachable.{EmptyIsReachable, RunsReach, StepsReach, HeadlineOfReachable}

pub empty_reachable : EmptyIsReachable
unfolding run
empty_reachable c = record { events = []; range = tt; is = refl }

pub runs_reach : RunsReach
runs_reach c w v events r range is =
    record { events = r.events ++ events; range = all_both IsInRange r.events events r.range range; is = is ∙ ap (λ (x : World). run c x events) r.is ∙ sym (run_in_parts c empty_world r.events events) }

one_step : (c : Crypto) (w : World) (e : Event) → (step c w e).1 ≡ run c w (e ∷ [])
unfolding run
one_step c w e = refl

pub steps_reach : StepsReach
steps_reach c w v e r range is = runs_reach c w v (e ∷ []) r (range, tt) (is ∙ one_step c w e)

pub headline_of_reachable : HeadlineOfReachable
headline_of_reachable c laws w r = subst (Headline c) (sym r.is) (holds_on_runs c laws r.events r.range)
