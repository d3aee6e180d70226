-- What a commit's list says, names and adds.
use Rattle.std.specs.Prelude.{◌≡◌, ℕ, Bool, true, false, List, [], ◌∷◌, ◌++◌, option_map, Option, Some, None, Ok}
use Rattle.std.specs.Global.{Vec}
use Rattle.std.specs.Option.{option_to_list}
use Rattle.mls_wire.specs.Combine.{vector}
use Rattle.mls_leaf.specs.Faults.{Spells}
use Rattle.mls_leaf.specs.KeyPackage.{key_package}
use Rattle.mls_leaf.specs.declared.key_package.KeyPackage.{KeyPackage}
use Rattle.mls_leaf.specs.declared.proposal.Proposal.{Proposal}
use Rattle.mls_types.specs.Commit.{proposal_or_ref, proposal_or_ref_nonempty}
use Rattle.mls_types.specs.declared.commit.ProposalOrRef.{ProposalOrRef}
use Rattle.mls_types.specs.declared.commit.ProposalOrRef.TheVariants as listed
use Rattle.mls_types.specs.declared.message.MlsMessage.{MlsMessage}
use Rattle.mls_types.specs.declared.public_message.PublicMessage.{PublicMessage}
use Rattle.mls_view.specs.declared.message.MessageView.{MessageView}
use Rattle.mls_view.specs.declared.public_message.PublicMessageView.{PublicMessageView}
use Rattle.mls_view.specs.Shown.{ShowsPublic, Shows}
use Rattle.mls_model.specs.Journal.{names_in, list_of_body, list_of_message}
use Rattle.mls_model.specs.Member.{KeptProposal, kept_under, named_proposal}

-- whether one of a commit's list is a reference (RFC 9420, 12.4)
abbrev pub is_reference : ProposalOrRef → Bool
is_reference (listed.Proposal proposal) = false
is_reference (listed.Reference reference) = true

-- what one of a commit's list says: a kept proposal by its reference, or the proposal itself (RFC 9420, 12.4)
abbrev pub proposal_for : List KeptProposal → ProposalOrRef → Option Proposal
proposal_for kept (listed.Proposal proposal) = Some proposal
proposal_for kept (listed.Reference reference) = option_map (λ (k : KeptProposal). k.proposal) (kept_under kept reference)

-- KeyPackages as bytes, with one more where there is one
abbrev pub with_package : List (List ℕ) → Option KeyPackage → List (List ℕ)
with_package done None = done
with_package done (Some offered) = done ++ (key_package.spell offered ∷ [])

-- the message of the kept proposal that one of a commit's list names (RFC 9420, 12.4)
abbrev pub name_of : List KeptProposal → ProposalOrRef → Option (List ℕ)
name_of kept x = option_map (λ (k : KeptProposal). k.message) (named_proposal kept x)

-- messages, with one more where there is one
abbrev pub with_name : Vec (List ℕ) → Option (List ℕ) → List (List ℕ)
with_name done message = done.items ++ option_to_list message

-- ---- the lists of received commits

-- Whatever one of a commit's list the bytes spell, this says whether it is a reference (RFC 9420, 12.4).
abbrev pub TellsReference : List ℕ → Bool → Type 0
TellsReference bytes told = (x : ProposalOrRef) → Spells proposal_or_ref x bytes → told ≡ is_reference x

-- Whatever one of a commit's list the bytes spell, this is the message of the kept proposal that it names, where it
-- names one (RFC 9420, 12.4).
abbrev pub IsNameOf : List KeptProposal → List ℕ → Option (List ℕ) → Type 0
IsNameOf kept bytes message = (x : ProposalOrRef) → Spells proposal_or_ref x bytes → message ≡ name_of kept x

-- Whatever list of a commit the bytes spell, these are the messages of the kept proposals that it names (RFC 9420, 12.4).
abbrev pub AreNamesOf : List KeptProposal → List ℕ → List (List ℕ) → Type 0
AreNamesOf kept bytes names = (list : List ProposalOrRef) → Spells (vector proposal_or_ref proposal_or_ref_nonempty) list bytes → names ≡ names_in kept list

-- the bytes that spell the list of a commit, none where there is no commit
abbrev pub IsList : Option (List ℕ) → List ProposalOrRef → Type 0
IsList None list = list ≡ []
IsList (Some part) list = Spells (vector proposal_or_ref proposal_or_ref_nonempty) list part

-- the list of the commit that a PublicMessage's view shows (RFC 9420, 12.4)
abbrev pub IsListOfView : PublicMessageView → Option (List ℕ) → Type 0
IsListOfView view part = (shown : PublicMessage) → ShowsPublic view shown → IsList part (list_of_body shown.content.body)

-- the list of the commit that a message's view shows (RFC 9420, 12.4)
abbrev pub IsListOfMessage : MessageView → Option (List ℕ) → Type 0
IsListOfMessage view part = (shown : MlsMessage) → Shows view shown → IsList part (list_of_message (Ok shown))
