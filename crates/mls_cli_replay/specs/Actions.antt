-- What an action of a recording does in a world: an event happens, or each active member gets a
-- message.
use Rattle.std.specs.Prelude.{◌≡◌, ℕ, ◌+◌, ◌<◌, ◌^◌, List, [], ◌∷◌, ⊤, map, take, Result, Ok, Err, IfOk, OnOk, OnErr}
use Rattle.mls_suite.specs.Crypto.{Crypto}
use Rattle.mls_model.specs.declared.effect.Effect.{Effect}
use Rattle.mls_model.specs.declared.effect.Effect.TheVariants as effect
use Rattle.mls_model.specs.declared.event.Event.{Event}
use Rattle.mls_model.specs.declared.event.Event.TheVariants as event
use Rattle.mls_model.specs.declared.event.Reply.{Reply}
use Rattle.mls_model.specs.declared.event.Reply.TheVariants as reply
use Rattle.mls_model.specs.declared.event.Source.{Source}
use Rattle.mls_model.specs.World.{World}
use Rattle.mls_model.specs.Run.{run, replies, step}
use Rattle.mls_world_plain.specs.ActiveMembers.{active}
use Rattle.mls_world_plain.specs.EarlyChecks.{early_checks}
use Rattle.mls_world_plain.specs.StepAnswer.{RepliesEarly}
use Rattle.mls_cli_recording.specs.declared.actions.Action.{Action}
use Rattle.mls_cli_recording.specs.declared.actions.Action.TheVariants as action
use Rattle.mls_cli_replay.specs.declared.deliveries.Tally.{Tally}
use Rattle.mls_cli_replay.specs.declared.reply.Outcome.{Outcome}
use Rattle.mls_cli_replay.specs.declared.reply.Outcome.TheVariants as outcome

-- ---- deliveries to members

-- these bytes, delivered to members of these numbers in order
abbrev pub deliveries : Source → List ℕ → List Event
deliveries source members = map (λ (k : ℕ). event.Deliver k source) members

-- they are delivered to those members that are active in this world
abbrev pub deliveries_to_all : World → Source → List Event
deliveries_to_all w source = deliveries source (active w.seats)

abbrev pub no_deliveries : Tally
no_deliveries = record { proposed = 0; known = 0; advanced = 0; removed = 0; refused = 0 }

-- with one more that did this
abbrev pub tally_with_effect : Tally → Effect → Tally
tally_with_effect t (effect.Proposed reference) = record t { proposed = t.proposed + 1 }
tally_with_effect t (effect.Known reference) = record t { known = t.known + 1 }
tally_with_effect t (effect.Advanced epoch) = record t { advanced = t.advanced + 1 }
tally_with_effect t effect.Removed = record t { removed = t.removed + 1 }

-- with one more reply
abbrev pub tally_with : Tally → Reply → Tally
tally_with t (reply.Delivered done) = tally_with_effect t done
tally_with t other = record t { refused = t.refused + 1 }

-- how often each kind of reply came, behind those that are counted
unfoldable pub tally_from : Tally → List Reply → Tally
tally_from t [] = t
tally_from t (r ∷ rs) = tally_from (tally_with t r) rs

abbrev pub tally_of : List Reply → Tally
tally_of rs = tally_from no_deliveries rs

-- ---- actions

-- the events that an action is: a message is delivered to those that are active as it begins
abbrev pub events_in : World → Action → List Event
events_in w (action.Event e) = e ∷ []
events_in w (action.DeliverAll source) = deliveries_to_all w source

-- what an action comes to
abbrev pub outcome_in : Crypto → World → Action → Outcome
outcome_in c w (action.Event e) = outcome.Reply (step c w e).0
outcome_in c w (action.DeliverAll source) =
    outcome.Tally (tally_of (replies c w (deliveries_to_all w source)))

-- the world that it leaves
abbrev pub world_after : Crypto → World → Action → World
world_after c w a = run c w (events_in w a)

-- the world that a list of actions leaves
unfoldable pub run_all : Crypto → World → List Action → World
run_all c w [] = w
run_all c w (a ∷ rest) = run_all c (world_after c w a) rest

-- what a list of actions comes to, one outcome for each, in their order
unfoldable pub outcomes : Crypto → World → List Action → List Outcome
outcomes c w [] = []
outcomes c w (a ∷ rest) = outcome_in c w a ∷ outcomes c (world_after c w a) rest

-- ---- of the code

-- a delivery happened, with its reply, or memory was refused and nothing did
abbrev pub DeliversOnce : {E : Type 0} → Crypto → World → World → ℕ → Source → Result Reply E →
    Type 0
DeliversOnce c old new k source (Ok r) = step c old (event.Deliver k source) ≡ (r, new)
DeliversOnce c old new k source (Err e) = new ≡ old

-- What of a delivery is decided before anything grows is its reply also when an allocation fails.
abbrev pub RepliesOnce : {E : Type 0} → Crypto → World → World → ℕ → Source → Result Reply E →
    Type 0
RepliesOnce c old new k source result =
    RepliesEarly c.number (event.Deliver k source) old new result

-- So is what of an event is decided before anything grows.
abbrev pub ComesEarly : {E : Type 0} → Crypto → World → World → Action → Result Outcome E → Type 0
ComesEarly c old new (action.Event e) result =
    (n : ℕ) → early_checks c.number old e ≡ Err n
    → (result ≡ Ok (outcome.Reply (reply.Refused n))) × (new ≡ old)
ComesEarly c old new (action.DeliverAll source) result = ⊤

-- some of the events have happened, from the first on
pub record HasRunPart (c : Crypto) (w v : World) (events : List Event) : Type 0 where
  pub count : ℕ
  pub world : v ≡ run c w (take count events)

-- Where it succeeds, all of the events have happened.
abbrev pub RunsAll : {T E : Type 0} → Crypto → World → World → List Event → Result T E → Type 0
RunsAll c old new events result = OnOk result (new ≡ run c old events)

-- Where it fails, some of them have.
abbrev pub RunsPart : {T E : Type 0} → Crypto → World → World → List Event → Result T E → Type 0
RunsPart c old new events result = OnErr result (HasRunPart c old new events)

-- Where it succeeds, the replies to the events are counted.
abbrev pub Tallies : {E : Type 0} → Crypto → World → List Event → Result Tally E → Type 0
Tallies c old events result = IfOk result (λ (t : Tally). t ≡ tally_of (replies c old events))

-- Where it succeeds, all of the actions are done.
abbrev pub DoesAll : {T E : Type 0} → Crypto → World → World → List Action → Result T E → Type 0
DoesAll c old new actions result = OnOk result (new ≡ run_all c old actions)

-- one more reply of any kind can be counted
pub record HasRoom (t : Tally) : Type 0 where
  pub proposed : t.proposed + 1 < 2 ^ 64
  pub known : t.known + 1 < 2 ^ 64
  pub advanced : t.advanced + 1 < 2 ^ 64
  pub removed : t.removed + 1 < 2 ^ 64
  pub refused : t.refused + 1 < 2 ^ 64
