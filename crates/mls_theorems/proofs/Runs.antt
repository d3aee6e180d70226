-- A good world is kept by each event, and so by each list of events.
use Rattle.std.proofs.Common.{◌≡◌, ℕ, [], ◌∷◌, Result, Ok, Err, refl}
use Rattle.mls_suite.specs.Crypto.{Crypto, Lawful}
use Rattle.mls_model.specs.declared.event.Event.{Event}
use Rattle.mls_model.specs.declared.event.Event.TheVariants as event
use Rattle.mls_model.specs.declared.event.Reply.{Reply}
use Rattle.mls_model.specs.Invariant.{IsGoodWorld}
use Rattle.mls_model.specs.EventRange.{IsInRange}
use Rattle.mls_model.specs.Run.{answer, step_by, step, run}
use Rattle.mls_model.specs.World.{World, empty_world}
use Rattle.mls_theorems.proofs.Beginning.{candidate_kept, create_kept}
use Rattle.mls_theorems.proofs.Committing.{commit_kept}
use Rattle.mls_theorems.proofs.Delivering.{deliver_kept}
use Rattle.mls_theorems.proofs.WorldJoins.{join_kept}
use Rattle.mls_theorems.proofs.Keeping.{propose_add_kept, propose_update_kept, propose_remove_kept, propose_extensions_kept, drop_kept}
use Rattle.mls_theorems.specs.GoodWorlds.{EmptyWorldGood, EventsKeepGood, RunsKeepGood}

pub empty_good : EmptyWorldGood
unfolding empty_world
empty_good c = (
  [],
  record {
    seats = refl;
    candidates = λ n e h. absurd cc;
    distinct = λ i j d e apart a b. absurd cc;
    spent = λ k s h. absurd cc;
    apart = λ i j s t apart a b. absurd cc;
    members = λ k s a. absurd (let h = a.is in cc);
    records = λ n d h. absurd cc;
    numbers = λ i j n x y d e a b p q. absurd cc;
    messages = λ n bytes h. absurd cc;
    pending = λ k s p a h. absurd (let e = a.is in cc);
  },
)

pub events_keep_good : EventsKeepGood
unfolding answer IsInRange
events_keep_good c laws w g (event.Candidate identity seed) range x h = candidate_kept c laws g.0 w g.1 identity.items seed x h
events_keep_good c laws w g (event.Create n group seed) range x h = create_kept c g.0 w g.1 n group.items seed x h
events_keep_good c laws w g (event.ProposeAdd k source) range x h = propose_add_kept c g.0 w g.1 k source x range h
events_keep_good c laws w g (event.ProposeUpdate k seed) range x h = propose_update_kept c g.0 w g.1 k seed x h
events_keep_good c laws w g (event.ProposeRemove k leaf) range x h = propose_remove_kept c g.0 w g.1 k leaf x h
events_keep_good c laws w g (event.ProposeExtensions k list) range x h = propose_extensions_kept c g.0 w g.1 k list.items x h
events_keep_good c laws w g (event.Commit k items path seed) range x h = commit_kept c g.0 w g.1 k items.items path seed x range h
events_keep_good c laws w g (event.DropPending k) range x h = drop_kept c g.0 w g.1 k x h
events_keep_good c laws w g (event.Deliver k source) range x h = deliver_kept c g.0 w g.1 k source x range h
events_keep_good c laws w g (event.Join n source) range x h = join_kept c laws g.0 w g.1 n source x h

by_answer : (c : Crypto) (w : World) (r : Result (Reply × World) ℕ) → IsGoodWorld c w → ((x : Reply × World) → r ≡ Ok x → IsGoodWorld c x.1) → IsGoodWorld c (step_by w r).1
by_answer c w (Ok x) g kept = kept x refl
by_answer c w (Err n) g kept = g

pub steps_keep_good : (c : Crypto) → Lawful c → (w : World) → IsGoodWorld c w → (e : Event) → IsInRange e → IsGoodWorld c (step c w e).1
unfolding step
steps_keep_good c laws w g e range = by_answer c w (answer c w e) g (λ x h. events_keep_good c laws w g e range x h)

pub runs_keep_good : RunsKeepGood
unfolding run
runs_keep_good c laws w g [] range = g
runs_keep_good c laws w g (e ∷ es) range = runs_keep_good c laws (step c w e).1 (steps_keep_good c laws w g e range.0) es range.1
