-- A commit and its Welcome, delivered in a world: whom they are for, and what these hold afterwards (RFC 9420, 12.4.2 and
-- 12.4.3.1).
use Rattle.std.specs.Prelude.{◌≡◌, ◌≢◌, ◌⊎◌, ℕ, ◌+◌, ◌<◌, ◌≤◌, true, false, List, [], ◌∷◌, length, slice_get, Some, Ok}
use Rattle.std.specs.List.{AllByRecursion}
use Rattle.mls_model.specs.declared.event.Event.{Event}
use Rattle.mls_model.specs.declared.event.Event.TheVariants.{Deliver, Join}
use Rattle.mls_model.specs.declared.event.Source.{Source}
use Rattle.mls_model.specs.declared.event.Source.TheVariants.{Given, Message}
use Rattle.mls_model.specs.Agreement.{Agree, AgreeSecret, Keeps}
use Rattle.mls_model.specs.Headline.{IsActive, IsAdded, is_removed}
use Rattle.mls_model.specs.Journal.{CommitMade, IsHomemade, with_entry, list_in}
use Rattle.mls_model.specs.Member.{Pending}
use Rattle.mls_model.specs.World.{World, Entrant, Seat, bytes_of, commit_for_joiner}

-- ---- whom a commit is for

-- a member holds the commit as its pending one (RFC 9420, 12.4.1)
pub record HasPending (s : Seat) (d : CommitMade) : Type 0 where
  pub pending : Pending
  pub is : s.member.pending ≡ Some pending
  pub message : pending.message ≡ d.entry.commit
  pub epoch : pending.epoch_secret ≡ d.epoch_secret

-- member k made the commit and has it pending, or is another and keeps under each reference that the commit names the
-- very message that the maker named
abbrev pub CanFollow : ℕ → Seat → CommitMade → Type 0
CanFollow k s d = ((k ≡ d.maker) × HasPending s d) ⊎ ((k ≢ d.maker) × Keeps s.member.kept (list_in d.entry.commit) d.entry.named_messages)

-- member k is active, has the journal at which the commit was made, and can follow it
pub record IsReceiver (w : World) (d : CommitMade) (k : ℕ) (s : Seat) : Type 0 where
  pub active : IsActive w k s
  pub journal : s.journal ≡ d.journal
  pub can : CanFollow k s d

-- a source is the commit's Welcome: by its number; or by its bytes, where no commit that was made before has a Welcome of
-- these bytes for the candidate
abbrev pub IsWelcomeFor : World → CommitMade → Entrant → Source → Type 0
IsWelcomeFor w d e (Message n) = (bytes : List ℕ) × (d.welcome ≡ Some (n, bytes))
IsWelcomeFor w d e (Given given) = ((n : ℕ) × (d.welcome ≡ Some (n, given.items))) × (commit_for_joiner w.commits (Given given) e.candidate ≡ Some d)

-- an event delivers the commit to one that it is for, or its Welcome to a candidate that isn't spent and that it adds
abbrev pub IsDelivery : World → CommitMade → Event → Type 0
IsDelivery w d (Deliver k source) = ((s : Seat) × IsReceiver w d k s) × (bytes_of w source ≡ Ok d.entry.commit)
IsDelivery w d (Join n source) = (e : Entrant) × IsAdded w n e d × IsWelcomeFor w d e source
IsDelivery w d other = ⊥

-- two events are for two members, or for two candidates
abbrev pub AreApart : Event → Event → Type 0
AreApart (Deliver k x) (Deliver l y) = k ≢ l
AreApart (Join m x) (Join n y) = m ≢ n
AreApart other another = Unit {0}

-- any two events of a list are for two members, or for two candidates
unfoldable pub EachOnce : List Event → Type 0
EachOnce [] = Unit {0}
EachOnce (e ∷ es) = AllByRecursion (AreApart e) es × EachOnce es

-- a list of events, in whichever order, delivers a commit that was made at a homemade journal, and its Welcome
pub record Delivers (w : World) (d : CommitMade) (events : List Event) : Type 0 where
  pub place : ℕ
  pub made : slice_get w.commits place ≡ Some d
  pub homemade : IsHomemade w.commits d.journal
  pub each : AllByRecursion (IsDelivery w d) events
  pub once : EachOnce events

-- ---- what they hold afterwards

-- member k is active, its journal is the maker's with the commit, and its epoch secret the one that the commit reaches
pub record IsNext (v : World) (d : CommitMade) (k : ℕ) : Type 0 where
  pub seat : Seat
  pub active : IsActive v k seat
  pub journal : seat.journal ≡ with_entry d.journal d.entry
  pub epoch : seat.member.epoch_secret ≡ d.epoch_secret

-- member k was removed
pub record IsGone (v : World) (k : ℕ) : Type 0 where
  pub seat : Seat
  pub is : slice_get v.seats k ≡ Some seat
  pub gone : seat.member.gone ≡ true

-- a member stays where it made the commit, or the commit doesn't remove it
abbrev pub Stays : CommitMade → ℕ → Seat → Type 0
Stays d k s = (k ≡ d.maker) ⊎ (is_removed s d ≡ false)

-- a member that stays follows the commit; another is removed by it
abbrev pub FollowsOrLeaves : World → CommitMade → ℕ → Seat → Type 0
FollowsOrLeaves v d k s = (Stays d k s × IsNext v d k) ⊎ ((is_removed s d ≡ true) × IsGone v k)

-- the commit was delivered to member k
pub record IsDeliveredTo (events : List Event) (k : ℕ) : Type 0 where
  pub place : ℕ
  pub source : Source
  pub is : slice_get events place ≡ Some (Deliver k source)

-- member k was a receiver, or joined since
abbrev pub TookPart : World → List Event → ℕ → Type 0
TookPart w events k = IsDeliveredTo events k ⊎ (length w.seats ≤ k)

-- how many join by an event, and by a list of them
abbrev pub joins_by : Event → ℕ
joins_by (Join n source) = 1
joins_by other = 0

unfoldable pub joins_in : List Event → ℕ
joins_in [] = 0
joins_in (e ∷ es) = joins_by e + joins_in es

-- each receiver follows the commit or is removed by it; as many members are new as joins, each of them in the commit's
-- epoch; and all that took part and weren't removed hold one public state, and one epoch secret with its nine secrets
pub record AllAgree (w v : World) (d : CommitMade) (events : List Event) : Type 0 where
  pub receivers : (k : ℕ) (s : Seat) → IsDeliveredTo events k → slice_get w.seats k ≡ Some s → FollowsOrLeaves v d k s
  pub count : length v.seats ≡ length w.seats + joins_in events
  pub joiners : (k : ℕ) → length w.seats ≤ k → k < length v.seats → IsNext v d k
  pub public : (i j : ℕ) (s t : Seat) → TookPart w events i → TookPart w events j → IsActive v i s → IsActive v j t → Agree s.member t.member
  pub secret : (i j : ℕ) (s t : Seat) → TookPart w events i → TookPart w events j → IsActive v i s → IsActive v j t → AgreeSecret s.member t.member

-- so it is after whatever list of events delivers a commit that was made at a homemade journal
abbrev pub CommitsReachAll : World → List Event → World → Type 0
CommitsReachAll w events v = (d : CommitMade) → Delivers w d events → AllAgree w v d events
