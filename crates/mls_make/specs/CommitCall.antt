-- What a commit call is given, and what it answers.
use Rattle.std.specs.Prelude.{◌≡◌, ℕ, ◌^◌, Bool, false, List, Option, Result, Ok, option_map}
use Rattle.std.specs.Borrow.{Bor}
use Rattle.std.specs.List.{AllByRecursion}
use Rattle.std.specs.Option.{option_copied}
use Rattle.mls_wire.specs.Checks.{Answers}
use Rattle.mls_leaf.specs.GroupExtensions.{group_extensions}
use Rattle.mls_leaf.specs.Proposal.{proposal}
use Rattle.mls_leaf.specs.declared.extension.Extension.{Extension}
use Rattle.mls_leaf.specs.declared.proposal.Proposal.{Proposal}
use Rattle.mls_leaf.specs.declared.proposal.Proposal.TheVariants.{Add, Update, Remove, GroupContextExtensions}
use Rattle.mls_types.specs.declared.commit.ProposalOrRef.{ProposalOrRef}
use Rattle.mls_suite.specs.Crypto.{Crypto}
use Rattle.mls_treekem_model.specs.Keys.{PrivateKeys}
use Rattle.mls_treekem.specs.declared.secrets.PathSecrets.{PathSecrets}
use Rattle.mls_model.specs.Commit.{Edits}
use Rattle.mls_model.specs.Make.{Made, MadePath, path_seals, commit_from_path, commit_from_proposals}
use Rattle.mls_model.specs.Member.{KeptProposal, Member, find_proposals}
use Rattle.mls_model.specs.Proposals.{extensions_after}
use Rattle.mls_model.specs.PublicState.{Used}
use Rattle.mls_public_group.specs.MessageLimit.{FitsIfShort}
use Rattle.mls_public_group.specs.Short.{IsBelow}
use Rattle.mls_message.specs.Speaks.{Speaks}
use Rattle.mls_message.specs.declared.speaker.Speaker.{Speaker}
use Rattle.mls_make.specs.Faults.{number_of}
use Rattle.mls_make.specs.OwnPath.{made_own_path, IsOwn, IsOwnPath}
use Rattle.mls_make.specs.TwoSteps.{sent_as, with_welcome}
use Rattle.mls_make.specs.declared.error.MakeError.{MakeError}
use Rattle.mls_make.specs.declared.new_commit.NewCommit.{NewCommit}
use Rattle.mls_make.specs.declared.own_path.OwnPath.{OwnPath}
use Rattle.mls_make.specs.declared.send_commit.SentCommit.{SentCommit}

-- the commit, the Welcome and the state that it leads to
abbrev pub made_as : NewCommit → Made
made_as v =
    record {
      commit = v.commit.items;
      welcome = option_map (λ w. w.items) v.welcome;
      pending = record {
        message = v.commit.items;
        public = v.group;
        epoch_secret = v.epoch;
        keys = v.keys;
      };
    }

-- a proposal in full encodes to fewer than 2^28 bytes, a kept one to fewer than 2^27
abbrev pub IsShortUsed : Used → Type 0
IsShortUsed u =
    IsBelow (2 ^ 28) proposal u.proposal
    × (u.is_full ≡ false → IsBelow (2 ^ 27) proposal u.proposal)

-- each of the proposals that a commit uses is so short
abbrev pub AreShortUsed : List Used → Type 0
AreShortUsed used = AllByRecursion IsShortUsed used

-- a proposal encodes to fewer than 2^28 bytes; of a list of extensions, which may be longer, only that it has a spelling if
-- that would be short
abbrev pub HasShortParts : Proposal → Type 0
HasShortParts (Add offered) = IsBelow (2 ^ 28) proposal (Add offered)
HasShortParts (Update leaf) = IsBelow (2 ^ 28) proposal (Update leaf)
HasShortParts (Remove leaf) = IsBelow (2 ^ 28) proposal (Remove leaf)
HasShortParts (GroupContextExtensions list) = FitsIfShort group_extensions list

-- it is such a proposal, and one that is kept encodes to fewer than 2^27 bytes
abbrev pub IsUsable : Used → Type 0
IsUsable u = HasShortParts u.proposal × (u.is_full ≡ false → IsBelow (2 ^ 27) proposal u.proposal)

-- each of the proposals that a commit uses is so
abbrev pub AreUsable : List Used → Type 0
AreUsable used = AllByRecursion IsUsable used

-- the speaker's group carries these extensions after the proposals
abbrev pub AreCarriedBy : Speaker → List Used → List Extension → Type 0
AreCarriedBy s used carried = carried ≡ extensions_after s.group.now.context.extensions used

-- a list uses these, by what somebody keeps and of some committer
abbrev pub AreUsedBy : List ProposalOrRef → List Used → Type 0
AreUsedBy list used =
    (kept : List KeptProposal) × ((leaf : ℕ) × (find_proposals kept leaf list ≡ Ok used))

-- The call makes the speaker's commit of a list with these edits and this path, or refuses with the number of what
-- fails, or with `OutOfMemory`.
abbrev pub CommitsPath : Crypto → Speaker → List ProposalOrRef → List Used → Edits → OwnPath →
    List ℕ → Result NewCommit MakeError → Type 0
CommitsPath c s list used e own seed result =
    (m : Member) (wants : Bool) → Speaks m s → IsOwnPath c m used e wants seed own →
    Answers made_as number_of (commit_from_path c m list used e (made_own_path own) seed) result

-- The call makes the speaker's commit of a list that uses these proposals, or refuses with the number of what fails, or
-- with `OutOfMemory`.
abbrev pub CommitsList : Crypto → Speaker → PrivateKeys → List ProposalOrRef → List Used → Bool →
    List ℕ → Result NewCommit MakeError → Type 0
CommitsList c s keys list used wants seed result =
    (m : Member) → Speaks m s → m.keys ≡ keys → find_proposals m.kept m.keys.leaf list ≡ Ok used →
    Answers made_as number_of (commit_from_proposals c m list used wants seed) result

-- The call adds the Welcome and the next state to a sent commit, or refuses with the number of what fails, or with
-- `OutOfMemory`.
abbrev pub AddsWelcome : Crypto → Speaker → List Used → SentCommit → Option (Bor PathSecrets) →
    PrivateKeys → ℕ → List ℕ → Result NewCommit MakeError → Type 0
AddsWelcome c s used sent secrets keys first seed result =
    (m : Member) (wants : Bool) (made : MadePath) → Speaks m s →
    IsOwn c m used sent.outcome.change.edits wants seed made (option_copied secrets) keys →
    path_seals made.path ≡ first →
    Answers made_as number_of (with_welcome c m used made seed (sent_as sent)) result
