-- What holds of each world that a list of events leaves. `step` says what an event does where there is memory; where
-- there is none, code answers `OutOfMemory` (1) and leaves what the events before led to. A seat is a member with its
-- journal: where it began, and an entry for each commit that it followed since. The list `commits` has the commits that
-- were made in the world. A journal is homemade where it began with a creation, and each of its entries was made in the
-- world at the journal before it, by calls that reached one epoch secret.
use Rattle.std.specs.Prelude.{◌≡◌, ◌≢◌, ℕ, ◌+◌, ◌<◌, Bool, true, false, List, length, take, slice_get, Option, Some, None, Result, Ok, Err}
use Rattle.std.specs.List.{AllByRecursion, list_any}
use Rattle.std.specs.Str.{bytes_eq}
use Rattle.mls_leaf.specs.KeyPackage.{key_package}
use Rattle.mls_types.specs.declared.message.MlsMessage.{MlsMessage}
use Rattle.mls_types.specs.declared.message.MlsMessage.TheVariants as message
use Rattle.mls_suite.specs.Crypto.{Crypto, Lawful}
use Rattle.mls_tree_model.specs.Sets.{has}
use Rattle.mls_tree_model.specs.Good.{IsGood}
use Rattle.mls_tree.specs.Rules.{rules_of}
use Rattle.mls_treekem_model.specs.Keys.{HasExact}
use Rattle.mls_model.specs.declared.effect.Effect.TheVariants.{Advanced, Removed}
use Rattle.mls_model.specs.declared.event.Source.{Source}
use Rattle.mls_model.specs.declared.event.Source.TheVariants.{Given, Message}
use Rattle.mls_model.specs.declared.event.Event.{Event}
use Rattle.mls_model.specs.declared.event.Event.TheVariants.{Deliver, Join}
use Rattle.mls_model.specs.declared.event.Reply.TheVariants.{Delivered, Joined, Refused}
use Rattle.mls_model.specs.Member.{Pending}
use Rattle.mls_model.specs.Messages.{decode_message}
use Rattle.mls_model.specs.Verdict.{own_pending}
use Rattle.mls_model.specs.Journal.{CommitMade, IsHomemade, with_entry, names_in, entry_of, list_in, removes_in}
use Rattle.mls_model.specs.World.{World, Entrant, Seat, empty_world, bytes_of, commit_for_joiner}
use Rattle.mls_model.specs.Run.{answer, step, run}
use Rattle.mls_model.specs.EventRange.{IsInRange}
use Rattle.mls_model.specs.Agreement.{Agree, AgreeSecret, AgreeOrTwins, Keeps}

-- a seat is that of member k, which wasn't removed
pub record IsActive (w : World) (k : ℕ) (s : Seat) : Type 0 where
  pub is : slice_get w.seats k ≡ Some s
  pub active : s.member.gone ≡ false

-- ---- agreement

-- members with one journal hold one public state
abbrev pub AgreeByJournal : World → Type 0
AgreeByJournal w = (i j : ℕ) (s t : Seat) → IsActive w i s → IsActive w j t → s.journal ≡ t.journal →
    Agree s.member t.member

-- members with one homemade journal hold the same secrets
abbrev pub AgreeSecretIfHomemade : World → Type 0
AgreeSecretIfHomemade w = (i j : ℕ) (s t : Seat) → IsActive w i s → IsActive w j t → s.journal ≡ t.journal →
    IsHomemade w.commits s.journal → AgreeSecret s.member t.member

-- members with one journal of any kind hold the same secrets, or their epoch secrets are twins: two that give one
-- confirmation tag (RFC 9420, 6.1)
abbrev pub AgreeByConfirmation : World → Type 0
AgreeByConfirmation w = (i j : ℕ) (s t : Seat) → IsActive w i s → IsActive w j t → s.journal ≡ t.journal →
    AgreeOrTwins s.member t.member

-- ---- acceptance

-- a member follows a commit into the next epoch and stays active there; its journal has the commit's entry too, and its
-- epoch secret is the one that the commit reaches
pub record FollowsCommit (c : Crypto) (w : World) (k : ℕ) (s : Seat) (source : Source) (d : CommitMade) : Type 0 where
  pub after : Seat
  pub reply : (step c w (Deliver k source)).0 ≡ Delivered (Advanced (s.member.public.context.epoch + 1))
  pub is_after : IsActive (step c w (Deliver k source)).1 k after
  pub context : after.member.public.context.epoch ≡ s.member.public.context.epoch + 1
  pub journal : after.journal ≡ with_entry s.journal d.entry
  pub epoch : after.member.epoch_secret ≡ d.epoch_secret

-- a member answers that it was removed, and is active no more; its journal is as it was
pub record LeavesGroup (c : Crypto) (w : World) (k : ℕ) (s : Seat) (source : Source) : Type 0 where
  pub after : Seat
  pub reply : (step c w (Deliver k source)).0 ≡ Delivered Removed
  pub is_after : slice_get (step c w (Deliver k source)).1.seats k ≡ Some after
  pub gone : after.member.gone ≡ true
  pub journal : after.journal ≡ s.journal

-- whether a commit that was made removes a member, by what the member keeps (RFC 9420, 12.3)
abbrev pub is_removed : Seat → CommitMade → Bool
is_removed s d = has (removes_in s.member.kept (list_in d.entry.commit)) s.member.keys.leaf

-- a member leaves the group where a commit removes it, and else follows the commit
pub record Accepts (c : Crypto) (w : World) (k : ℕ) (s : Seat) (source : Source) (d : CommitMade) : Type 0 where
  pub removed : is_removed s d ≡ true → LeavesGroup c w k s source
  pub follows : is_removed s d ≡ false → FollowsCommit c w k s source d

-- a member is to accept a source: it is a commit of another member, made at a homemade journal that this member has too
pub record IsToAccept (w : World) (k : ℕ) (s : Seat) (source : Source) (d : CommitMade) : Type 0 where
  -- a commit call of this world made the commit
  pub place : ℕ
  pub made : slice_get w.commits place ≡ Some d
  -- the journal at which it was made is homemade
  pub homemade : IsHomemade w.commits d.journal
  -- the member is active
  pub active : IsActive w k s
  -- it isn't the maker
  pub other : k ≢ d.maker
  -- its journal is the one at which the commit was made
  pub journal : s.journal ≡ d.journal
  -- it keeps, under each reference that the commit names, the very message that the maker named
  pub keeps : Keeps s.member.kept (list_in d.entry.commit) d.entry.named_messages
  -- the source's bytes are those of the commit
  pub bytes : bytes_of w source ≡ Ok d.entry.commit

-- a member accepts each source that it is to accept
abbrev pub AcceptsHomemade : Crypto → World → Type 0
AcceptsHomemade c w = (k : ℕ) (s : Seat) (source : Source) (d : CommitMade) → IsToAccept w k s source d →
    Accepts c w k s source d

-- ---- joins

-- a candidate becomes the next member, an active one, in the epoch that its context names; its journal is that of the
-- commit's maker with the commit, and its epoch secret the one that the commit reaches
pub record JoinsGroup (c : Crypto) (w : World) (n : ℕ) (source : Source) (d : CommitMade) : Type 0 where
  pub after : Seat
  pub reply : (step c w (Join n source)).0 ≡ Joined (length w.seats) after.member.public.context.epoch
  pub is_after : IsActive (step c w (Join n source)).1 (length w.seats) after
  pub one_more : length (step c w (Join n source)).1.seats ≡ length w.seats + 1
  pub journal : after.journal ≡ with_entry d.journal d.entry
  pub epoch : after.member.epoch_secret ≡ d.epoch_secret

-- candidate n isn't spent, and a commit adds its own KeyPackage
pub record IsAdded (w : World) (n : ℕ) (e : Entrant) (d : CommitMade) : Type 0 where
  pub is : slice_get w.entrants n ≡ Some e
  pub unspent : e.is_spent ≡ false
  pub adds : list_any (bytes_eq (key_package.spell e.candidate.offered)) d.adds ≡ true

-- a candidate that a commit adds joins by the number of the commit's Welcome, whatever the journal was, with the
-- maker's journal and that commit
abbrev pub JoinsByNumber : Crypto → World → Type 0
JoinsByNumber c w = (i n number : ℕ) (bytes : List ℕ) (d : CommitMade) (e : Entrant) → slice_get w.commits i ≡ Some d →
    d.welcome ≡ Some (number, bytes) →
    IsAdded w n e d → JoinsGroup c w n (Message number) d

-- a source gives these very bytes
abbrev pub IsGiven : Source → List ℕ → Type 0
IsGiven (Given supplied) bytes = supplied.items ≡ bytes
IsGiven (Message n) bytes = ⊥

-- a candidate that a commit adds joins by the bytes of the commit's Welcome too: with the maker's journal, the entry
-- and the epoch secret of the first commit that adds it by a Welcome of these bytes
abbrev pub JoinsByBytes : Crypto → World → Type 0
JoinsByBytes c w = (i n number : ℕ) (bytes : List ℕ) (source : Source) (d : CommitMade) (e : Entrant) →
    slice_get w.commits i ≡ Some d → d.welcome ≡ Some (number, bytes) →
    IsGiven source bytes → IsAdded w n e d →
    (f : CommitMade) × (commit_for_joiner w.commits source e.candidate ≡ Some f) × JoinsGroup c w n source f

-- ---- keys and trees, whatever bytes came

-- each active member has exactly the private keys that are due on its path (RFC 9420, 7.5)
abbrev pub KeysAreExact : Crypto → World → Type 0
KeysAreExact c w = (k : ℕ) (s : Seat) → IsActive w k s → HasExact c s.member.public.tree s.member.keys

-- each active member's tree is good (RFC 9420, 7)
abbrev pub TreesAreGood : Crypto → World → Type 0
TreesAreGood c w = (k : ℕ) (s : Seat) → IsActive w k s →
    IsGood (rules_of c s.member.public.context.group_id) s.member.public.tree

-- ---- refusals

-- an event that is refused names the first check that fails, and changes nothing
abbrev pub RefusalsChangeNothing : Crypto → World → Type 0
RefusalsChangeNothing c w = (e : Event) (n : ℕ) → (step c w e).0 ≡ Refused n →
    (answer c w e ≡ Err n) × ((step c w e).1 ≡ w)

-- ---- what deliveries and joins leave as it was

-- other members than k, all candidates and messages, and the commits that were made stay as they were
pub record KeepsOthers (w v : World) (k : ℕ) : Type 0 where
  pub count : length v.seats ≡ length w.seats
  pub seats : (i : ℕ) → i ≢ k → slice_get v.seats i ≡ slice_get w.seats i
  pub entrants : v.entrants ≡ w.entrants
  pub messages : v.messages ≡ w.messages
  pub made : v.commits ≡ w.commits

-- a delivery changes nobody but the member that it is made to
abbrev pub DeliveriesKeepOthers : Crypto → World → Type 0
DeliveriesKeepOthers c w = (k : ℕ) (source : Source) → KeepsOthers w (step c w (Deliver k source)).1 k

-- all members, other candidates than n, all messages, and the commits that were made stay as they were
pub record KeepsMembers (w v : World) (n : ℕ) : Type 0 where
  pub seats : (i : ℕ) → i < length w.seats → slice_get v.seats i ≡ slice_get w.seats i
  pub entrants : (i : ℕ) → i ≢ n → slice_get v.entrants i ≡ slice_get w.entrants i
  pub messages : v.messages ≡ w.messages
  pub made : v.commits ≡ w.commits

-- a join changes no member
abbrev pub JoinsKeepMembers : Crypto → World → Type 0
JoinsKeepMembers c w = (n : ℕ) (source : Source) → KeepsMembers w (step c w (Join n source)).1 n

-- ---- the maker of a commit

-- a pending commit is one of those that its member made at the journal that it has
pub record IsPendingOf (w : World) (k : ℕ) (s : Seat) (p : Pending) : Type 0 where
  pub which : CommitMade
  pub place : ℕ
  pub is : slice_get w.commits place ≡ Some which
  pub maker : which.maker ≡ k
  pub journal : which.journal ≡ s.journal
  pub commit : which.entry.commit ≡ p.message
  pub names : which.entry.named_messages ≡ names_in s.member.kept (list_in p.message)
  pub epoch : which.epoch_secret ≡ p.epoch_secret

-- the pending commit of each active member is one that it made
abbrev pub PendingWasMade : World → Type 0
PendingWasMade w = (k : ℕ) (s : Seat) (p : Pending) → IsActive w k s → s.member.pending ≡ Some p → IsPendingOf w k s p

-- a member follows its pending commit into the state that it made, and stays active there; its journal has the commit's
-- entry too
pub record FollowsPending (c : Crypto) (w : World) (k : ℕ) (s : Seat) (p : Pending) (source : Source) : Type 0 where
  pub after : Seat
  pub reply : (step c w (Deliver k source)).0 ≡ Delivered (Advanced p.public.context.epoch)
  pub is_after : IsActive (step c w (Deliver k source)).1 k after
  pub public : after.member.public ≡ p.public
  pub journal : after.journal ≡ with_entry s.journal (entry_of s.member p.message)
  pub epoch : after.member.epoch_secret ≡ p.epoch_secret

-- an active member follows the commit that it holds as its pending one
abbrev pub FollowsOwn : Crypto → World → Type 0
FollowsOwn c w = (k : ℕ) (s : Seat) (p : Pending) (source : Source) → IsActive w k s → s.member.pending ≡ Some p →
    bytes_of w source ≡ Ok p.message →
    FollowsPending c w k s p source

-- while the maker of a commit stands at the journal at which it made it, it keeps the very messages that the commit
-- names
abbrev pub MakersKeep : World → Type 0
MakersKeep w = (n : ℕ) (d : CommitMade) (s : Seat) → slice_get w.commits n ≡ Some d → IsActive w d.maker s →
    s.journal ≡ d.journal → Keeps s.member.kept (list_in d.entry.commit) d.entry.named_messages

-- the epoch that a message names in its content (RFC 9420, 6)
abbrev pub epoch_of_message : Result MlsMessage ℕ → Option ℕ
epoch_of_message (Ok (message.PublicMessage v)) = Some v.content.epoch
epoch_of_message other = None

-- in the epoch of a commit that it made, and that isn't its pending one, the maker answers `OwnUnknown` (48)
abbrev pub RefusesOwn : Crypto → World → Type 0
RefusesOwn c w = (n : ℕ) (d : CommitMade) (s : Seat) (source : Source) → slice_get w.commits n ≡ Some d →
    IsActive w d.maker s →
    epoch_of_message (decode_message d.entry.commit) ≡ Some s.member.public.context.epoch →
    own_pending s.member.pending d.entry.commit ≡ None →
    bytes_of w source ≡ Ok d.entry.commit → (step c w (Deliver d.maker source)).0 ≡ Refused 48

-- ---- the whole

-- what holds of a world: agreement, acceptance, joins, keys and trees, refusals, what deliveries and joins leave as it
-- was, and what the maker does with its commit
pub record Headline (c : Crypto) (w : World) : Type 0 where
  pub public : AgreeByJournal w
  pub secret : AgreeSecretIfHomemade w
  pub confirmed : AgreeByConfirmation w
  pub accepted : AcceptsHomemade c w
  pub joined_by_number : JoinsByNumber c w
  pub joined_by_bytes : JoinsByBytes c w
  pub keys : KeysAreExact c w
  pub trees : TreesAreGood c w
  pub refused : RefusalsChangeNothing c w
  pub delivered : DeliveriesKeepOthers c w
  pub joined : JoinsKeepMembers c w
  pub pending : PendingWasMade w
  pub names : MakersKeep w
  pub own : FollowsOwn c w
  pub own_refused : RefusesOwn c w

-- the headline holds of the world that events leave, for every lawful suite and every list of events that code can
-- have: given bytes are bytes, and the leaves that a commit call removes have 32 bits
abbrev pub HoldsOnRuns : Type 0
HoldsOnRuns = (c : Crypto) → Lawful c → (events : List Event) → AllByRecursion IsInRange events →
    Headline c (run c empty_world events)

-- the headline holds of the world before a list of events, and of the world after each of them
abbrev pub HoldsAlong : Crypto → World → List Event → Type 0
HoldsAlong c w events = (n : ℕ) → Headline c (run c w (take n events))
