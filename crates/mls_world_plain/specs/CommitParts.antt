-- The parts of a commit call, by the code's values.
use Rattle.std.specs.Prelude.{◌≡◌, ℕ, Bool, List, map, slice_get, option_map, Option, Some, None, Result, is_some}
use Rattle.std.specs.Global.{Vec}
use Rattle.mls_wire.specs.Checks.{DoesAs}
use Rattle.mls_suite.specs.Crypto.{Crypto}
use Rattle.mls_member.specs.Answers.{messages_of}
use Rattle.mls_member.specs.declared.commit.Made.{Made}
use Rattle.mls_model.specs.declared.event.Reply.TheVariants as reply
use Rattle.mls_model.specs.declared.item.Item.{Item}
use Rattle.mls_model.specs.Make.{list_item_of}
use Rattle.mls_model.specs.Member.{Pending, without_pending}
use Rattle.mls_model.specs.World.{World, Seat, with_member}
use Rattle.mls_world_plain.specs.declared.commits.Named.{Named}
use Rattle.mls_world_plain.specs.declared.commits.NewCommit.{NewCommit}
use Rattle.mls_world_plain.specs.declared.error.WorldError.{WorldError}
use Rattle.mls_world_plain.specs.CallParts.{commit_by, record_commit, IsNamed}
use Rattle.mls_world_plain.specs.Faults.{number_of}

-- ---- what is made

-- member k commits a list, and the messages of its commit and its Welcome are made
abbrev pub CommitsList : Crypto → World → World → ℕ → List Item → Bool → List ℕ → Result Made WorldError → Type 0
CommitsList c old new k list path seed result = DoesAs messages_of number_of (commit_by c old k (map list_item_of list) path seed) old new result

-- the Welcome of a commit with the number of its message
abbrev pub welcome_with_number : ℕ → Made → Option (ℕ × List ℕ)
welcome_with_number number made = option_map (λ (v : Vec ℕ). (number, v.items)) made.welcome

-- ---- what is recorded

-- what a list names and adds, by what member k keeps (RFC 9420, 12.4)
abbrev pub NamesList : World → ℕ → List Item → Named → Type 0
NamesList w k list named = (s : Seat) → slice_get w.seats k ≡ Some s → IsNamed s.member.kept (map list_item_of list) named.names.items named.adds.items

-- the pending commit of member k is recorded with what it names and adds, and its messages are the next ones
abbrev pub RecordsCommit : World → World → ℕ → Made → Named → NewCommit → Type 0
RecordsCommit old new k made named v =
    (s : Seat) (p : Pending) → slice_get old.seats k ≡ Some s → s.member.pending ≡ Some p
    → record_commit old k s p.epoch_secret (messages_of made) named.names.items named.adds.items ≡ (reply.Commit v.message v.welcome, new)

-- ---- what is pending

-- member k has no pending commit
abbrev pub HasNothingPending : World → ℕ → Type 0
HasNothingPending w k = (s : Seat) → slice_get w.seats k ≡ Some s → s.member.pending ≡ None

-- whether member k has a pending commit
abbrev pub TellsPending : World → ℕ → Bool → Type 0
TellsPending w k answer = (s : Seat) → slice_get w.seats k ≡ Some s → answer ≡ is_some s.member.pending

-- the epoch secret that the pending commit of member k leads to, where it has one
abbrev pub IsPendingEpoch : World → ℕ → List ℕ → Type 0
IsPendingEpoch w k epoch = (s : Seat) (p : Pending) → slice_get w.seats k ≡ Some s → s.member.pending ≡ Some p → epoch ≡ p.epoch_secret

-- member k forgets its pending commit
abbrev pub ForgetsPending : World → World → ℕ → Type 0
ForgetsPending old new k = (s : Seat) → slice_get old.seats k ≡ Some s → new ≡ with_member old k s (without_pending s.member)
