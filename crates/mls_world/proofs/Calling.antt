-- Each call on a world is an event, and so leads on to a world that a list of events leaves.
use Rattle.std.proofs.Common.{ℕ, ◌<◌, ◌^◌, Bool, List, length, Result, Ok, Err, refl, sym, ap, subst, arith}
use Rattle.std.specs.Global.{Global, Vec}
use Rattle.std.specs.List.{AllByRecursion}
use denote.RawPtr.{null_ptr}
use Rattle.mls_leaf.specs.declared.extension.Extension.{Extension}
use Rattle.mls_wire.specs.Checks.{DoesAs}
use Rattle.mls_suite.specs.Crypto.{Crypto}
use Rattle.mls_model.specs.declared.event.Source.{Source}
use Rattle.mls_model.specs.declared.event.WorldItem.{WorldItem}
use Rattle.mls_model.specs.declared.event.Event.{Event}
use Rattle.mls_model.specs.declared.event.Event.TheVariants as event
use Rattle.mls_model.specs.declared.event.Reply.{Reply}
use Rattle.mls_model.specs.WorldCalls.{candidate_answer, create_answer, propose_add_answer, propose_update_answer, propose_remove_answer, propose_extensions_answer, commit_answer, drop_answer, deliver_answer, join_answer}
use Rattle.mls_model.specs.EventRange.{IsSourceInRange, IsItemInRange, IsInRange}
use Rattle.mls_model.specs.Run.{answer}
use Rattle.mls_model.proofs.RunLaws.{answered_step}
use Rattle.mls_model.specs.World.{World}
use Rattle.mls_theorems.specs.Reachable.{IsReachable}
use Rattle.mls_theorems.proofs.Reachable.{steps_reach}

-- elements as a `Vec`, wherever it would lie
abbrev in_vec : {X : Type 0} → Global → (xs : List X) → length xs < 2 ^ 63 → Vec X
in_vec alloc xs few = record { ptr = null_ptr; len = length xs; cap = length xs; alloc = alloc; items = xs; ok = (refl, omega arith); small = few }

module _ {B E : Type 0} (c : Crypto) (value : B → Reply) (number : E → ℕ) (w v : World) (r : Result B E) (reach : IsReachable c w) where
  by_event : (s : Result B E) (e : Event) → IsInRange e → DoesAs value number (answer c w e) w v s → IsReachable c v
  by_event (Ok x) e range h = steps_reach c w v e reach range (sym (ap (λ (y : Reply × World). y.1) (answered_step c w e (value x, v) h)))
  by_event (Err f) e range h = subst (IsReachable c) (sym h.0) reach

  pub by_candidate : (alloc : Global) (identity seed : List ℕ) → length identity < 2 ^ 63 → DoesAs value number (candidate_answer c w identity seed) w v r → IsReachable c v
  unfolding answer IsInRange
  by_candidate alloc identity seed few h = by_event r (event.Candidate (in_vec alloc identity few) seed) tt h

  pub by_create : (alloc : Global) (n : ℕ) (group seed : List ℕ) → length group < 2 ^ 63 → DoesAs value number (create_answer c w n group seed) w v r → IsReachable c v
  unfolding answer IsInRange
  by_create alloc n group seed few h = by_event r (event.Create n (in_vec alloc group few) seed) tt h

  pub by_propose_add : (k : ℕ) (source : Source) → IsSourceInRange source → DoesAs value number (propose_add_answer c w k source) w v r → IsReachable c v
  unfolding answer IsInRange
  by_propose_add k source range h = by_event r (event.ProposeAdd k source) range h

  pub by_propose_update : (k : ℕ) (seed : List ℕ) → DoesAs value number (propose_update_answer c w k seed) w v r → IsReachable c v
  unfolding answer IsInRange
  by_propose_update k seed h = by_event r (event.ProposeUpdate k seed) tt h

  pub by_propose_remove : (k leaf : ℕ) → DoesAs value number (propose_remove_answer c w k leaf) w v r → IsReachable c v
  unfolding answer IsInRange
  by_propose_remove k leaf h = by_event r (event.ProposeRemove k leaf) tt h

  pub by_propose_extensions : (k : ℕ) (list : Vec Extension) → DoesAs value number (propose_extensions_answer c w k list.items) w v r → IsReachable c v
  unfolding answer IsInRange
  by_propose_extensions k list h = by_event r (event.ProposeExtensions k list) tt h

  pub by_commit : (alloc : Global) (k : ℕ) (items : List WorldItem) (path : Bool) (seed : List ℕ) → length items < 2 ^ 63 → AllByRecursion IsItemInRange items →
      DoesAs value number (commit_answer c w k items path seed) w v r → IsReachable c v
  unfolding answer IsInRange
  by_commit alloc k items path seed few range h = by_event r (event.Commit k (in_vec alloc items few) path seed) range h

  pub by_drop : (k : ℕ) → DoesAs value number (drop_answer w k) w v r → IsReachable c v
  unfolding answer IsInRange
  by_drop k h = by_event r (event.DropPending k) tt h

  pub by_deliver : (k : ℕ) (source : Source) → IsSourceInRange source → DoesAs value number (deliver_answer c w k source) w v r → IsReachable c v
  unfolding answer IsInRange
  by_deliver k source range h = by_event r (event.Deliver k source) range h

  pub by_join : (n : ℕ) (source : Source) → IsSourceInRange source → DoesAs value number (join_answer c w n source) w v r → IsReachable c v
  unfolding answer IsInRange
  by_join n source range h = by_event r (event.Join n source) range h
