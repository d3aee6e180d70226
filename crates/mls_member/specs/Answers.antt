-- What the calls of a member answer.
use Rattle.std.specs.Prelude.{◌≡◌, ℕ, ◌+◌, ◌≤◌, ◌^◌, Bool, false, List, map, Option, None, option_map, IsSome, Result, Err, IfOk}
use Rattle.std.specs.Global.{Vec}
use Rattle.std.specs.List.{AllByRecursion}
use Rattle.mls_wire.specs.Checks.{Answers, DoesAs}
use Rattle.mls_leaf.specs.declared.proposal.Proposal.{Proposal}
use Rattle.mls_types.specs.declared.commit.ProposalOrRef.{ProposalOrRef}
use Rattle.mls_suite.specs.Crypto.{Crypto}
use Rattle.mls_model.specs.declared.item.Item.{Item}
use Rattle.mls_model.specs.declared.item.Item.TheVariants as item
use Rattle.mls_tree.specs.Refusals.{RefusesOutright}
use Rattle.mls_model.specs.MemberInvariant.{IsGoodCandidate, IsGoodMember}
use Rattle.mls_model.specs.Candidate.{Candidate}
use Rattle.mls_model.specs.Join as model
use Rattle.mls_model.specs.Make.{list_item_of, commit_call}
use Rattle.mls_model.specs.Member.{KeptProposal, Member, Pending, find_proposals, kept_under}
use Rattle.mls_model.specs.PublicState.{Used}
use Rattle.mls_model.specs.Sharing.{ReachesGroup}
use Rattle.mls_join.specs.Entrance.{welcome_outer_checks}
use Rattle.mls_make.specs.CommitCall.{made_as}
use Rattle.mls_make.specs.declared.new_commit.NewCommit.{NewCommit}
use Rattle.mls_public_group.specs.ShortProposal.{IsShortProposal}
use Rattle.mls_member.specs.Committing.{made_of_list}
use Rattle.mls_member.specs.Faults.{number_of}
use Rattle.mls_member.specs.declared.commit.Made.{Made}
use Rattle.mls_member.specs.declared.error.Refusal.{Refusal}
use Rattle.mls_member.specs.declared.error.Refusal.TheVariants.{EpochEnd, PendingCommit}
use Rattle.mls_member.specs.declared.join.Joined.{Joined}

-- the messages of a commit call: that of the commit, and that of its Welcome where there is one
abbrev pub messages_of : Made → List ℕ × Option (List ℕ)
messages_of made = (made.commit.items, option_map (λ v. v.items) made.welcome)

-- what a commit call made of a list reaches the group (RFC 9420, 12.4): the committer, the others, and those that it
-- adds
abbrev pub ReachesAll : Crypto → Member → Member → List ProposalOrRef → Made → Type 0
ReachesAll c maker after list made =
    ReachesGroup c maker after list made.commit.items (option_map (λ v. v.items) made.welcome)

-- a new member with the GroupInfo
abbrev pub joined_as : {S : Type 0} → Joined S → model.JoinedMember
joined_as j = record { member = j.member; info = j.group_info.items }

-- a proposal in full is short, which is all that a commit call asks of its caller; of a reference nothing is asked, nor
-- of extensions
abbrev pub IsShortItem : Item → Type 0
IsShortItem (item.Ref reference) = Unit {0}
IsShortItem (item.Full p) = IsShortProposal p

-- each proposal in full is short
abbrev pub AreShortItems : List Item → Type 0
AreShortItems items = AllByRecursion IsShortItem items

-- ---- proposals that a member keeps

-- the proposal that a member keeps under a reference (RFC 9420, 12.4)
abbrev pub kept_proposal : Member → List ℕ → Option Proposal
kept_proposal m reference =
    option_map (λ (k : KeptProposal). k.proposal) (kept_under m.kept reference)

-- the message of the proposal that a member keeps under a reference (RFC 9420, 12.4)
abbrev pub kept_message : Member → List ℕ → Option (List ℕ)
kept_message m reference =
    option_map (λ (k : KeptProposal). k.message) (kept_under m.kept reference)

-- the message of a member's pending commit
abbrev pub pending_message : Member → Option (List ℕ)
pending_message m = option_map (λ (p : Pending). p.message) m.pending

-- the epoch secret that the pending commit of a member leads to
abbrev pub pending_secret : Member → Option (List ℕ)
pending_secret m = option_map (λ (p : Pending). p.epoch_secret) m.pending

-- a kept proposal, as a commit uses it
abbrev pub used_kept : KeptProposal → Used
used_kept k = record { proposal = k.proposal; sender = k.sender; is_full = false }

-- The call answers the proposals that a list uses, with their senders, or refuses with `UnknownReference` (60) where a
-- reference isn't kept, or with `OutOfMemory`.
abbrev pub Finds : List KeptProposal → ℕ → List ProposalOrRef → Result (Vec Used) Refusal → Type 0
Finds kept committer list result =
    Answers (λ v. v.items) number_of (find_proposals kept committer list) result

-- ---- commits

-- The call makes a commit of these proposals, or refuses with the number of what fails, or with `OutOfMemory`.
abbrev pub MakesCommit : Crypto → Member → List Item → Bool → List ℕ → Result NewCommit Refusal →
    Type 0
MakesCommit c m items path seed result =
    Answers made_as number_of (made_of_list c m (map list_item_of items) path seed) result

-- A call does what the definition of a commit says, and answers its messages.
abbrev pub Commits : Result ((List ℕ × Option (List ℕ)) × Member) ℕ → Member → Member →
    Result Made Refusal → Type 0
Commits defined old new result = DoesAs messages_of number_of defined old new result

-- The call commits these proposals, or refuses with the number of what fails, or with `OutOfMemory`.
abbrev pub CommitsItems : Crypto → List Item → Bool → List ℕ → Member → Member →
    Result Made Refusal → Type 0
CommitsItems c items path seed old new result =
    Commits (commit_call c old (map list_item_of items) path seed) old new result

-- what a good member's commit made reaches the group
abbrev pub MadeReaches : Crypto → List Item → Member → Member → Result Made Refusal → Type 0
MadeReaches c items old new result =
    IsGoodMember c old → IfOk result (ReachesAll c old new (map list_item_of items))

-- a member that wasn't removed and has a pending commit is refused with that
abbrev pub RefusesPending : {A : Type 0} → Member → Result A Refusal → Type 0
RefusesPending m result = m.gone ≡ false → IsSome m.pending → result ≡ Err PendingCommit

-- a member that wasn't removed, without a pending commit, is refused where no epoch comes after this
abbrev pub RefusesLast : {A : Type 0} → Member → Result A Refusal → Type 0
RefusesLast m result =
    m.gone ≡ false → m.pending ≡ None → 2 ^ 64 ≤ m.public.context.epoch + 1 → result ≡ Err EpochEnd

-- ---- creations and joins

-- A call makes the member that the definition does, or refuses with its number or `OutOfMemory`.
abbrev pub Joins : {S : Type 0} → Result model.JoinedMember ℕ → Result (Joined S) Refusal → Type 0
Joins defined result = Answers joined_as number_of defined result

-- a good candidate becomes a good member
abbrev pub AdmitsGood : {S : Type 0} → Crypto → Candidate → Result (Joined S) Refusal → Type 0
AdmitsGood c k result = IsGoodCandidate c k → IfOk result (λ j. IsGoodMember c j.member)

-- a good candidate creates a group as a good member
abbrev pub CreatesGood : Crypto → Candidate → Result Member Refusal → Type 0
CreatesGood c k result = IsGoodCandidate c k → IfOk result (λ m. IsGoodMember c m)

-- faults of decoding, `NotWelcome` (70) and `WrongSuite` (71) are answered also when an allocation fails
abbrev pub RefusesOuter : {A : Type 0} → ℕ → List ℕ → Result A Refusal → Type 0
RefusesOuter number bytes result = RefusesOutright number_of (welcome_outer_checks number bytes) result
