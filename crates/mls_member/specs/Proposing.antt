-- What a member proposes.
use Rattle.std.specs.Prelude.{◌≡◌, ℕ, Bool, true, false, List, Option, Some, None, Result, Ok}
use Rattle.std.specs.Global.{Vec}
use Rattle.std.specs.Str.{bytes_eq}
use Rattle.mls_wire.specs.Checks.{AnswersOutright, DoesAs, Passed, require, ◌>>◌}
use Rattle.mls_wire.specs.Reading.{◌>>=◌}
use Rattle.mls_leaf.specs.declared.extension.Extension.{Extension}
use Rattle.mls_leaf.specs.declared.key_package.KeyPackage.{KeyPackage}
use Rattle.mls_leaf.specs.declared.leaf.LeafNode.{LeafNode}
use Rattle.mls_leaf.specs.declared.proposal.Proposal.{Proposal}
use Rattle.mls_suite.specs.Crypto.{Crypto}
use Rattle.mls_tree.specs.Tree.{member_at}
use Rattle.mls_model.specs.Member.{KeptProposal, Member, kept_under, with_kept}
use Rattle.mls_model.specs.Messages.{require_within_limit, message_by, reference_of}
use Rattle.mls_model.specs.Propose.{proposal_by, keep_once, updated_leaf, propose_add, propose_update, propose_remove, propose_extensions}
use Rattle.mls_public_group.specs.ProposalChecks.{member_check}
use Rattle.mls_message.specs.declared.said_proposal.SaidProposal.{SaidProposal}
use Rattle.mls_tree.specs.Refusals.{RefusesOutright}
use Rattle.mls_member.specs.Faults.{number_of}
use Rattle.mls_member.specs.declared.error.Refusal.{Refusal}

-- a member's proposal, as it keeps it
abbrev pub kept_as : Crypto → Member → Proposal → Option (List ℕ) → KeptProposal
kept_as c m said own_key =
    record {
      reference = reference_of (proposal_by c m said);
      message = message_by m (proposal_by c m said);
      proposal = said;
      sender = m.keys.leaf;
      own_key = own_key;
    }

-- whether the same message is kept, where one is kept under its reference: `ReferenceTaken` (49) another one is
-- (RFC 9420, 12.1)
abbrev pub known_as : Option KeptProposal → List ℕ → Result Bool ℕ
known_as None message = Ok false
known_as (Some old) message = require 49 (bytes_eq old.message message) >> Ok true

-- a proposal is kept with its message and its reference
abbrev pub keep_sent_proposal : Member → List ℕ → List ℕ → Proposal → Option (List ℕ) →
    Result (List ℕ × Member) ℕ
keep_sent_proposal m message reference said own_key = Ok (message, with_kept m (record { reference = reference; message = message; proposal = said; sender = m.keys.leaf; own_key = own_key }))

-- a proposal whose checks have passed is sent and kept: `TooLong` (6) its message is too large, `ReferenceTaken` (49)
-- another message is kept under its reference (RFC 9420, 12.1)
abbrev pub send_and_keep : Crypto → Member → Proposal → Option (List ℕ) → Result (List ℕ × Member) ℕ
send_and_keep c m said own_key =
    require_within_limit (message_by m (proposal_by c m said))
    >> keep_once m (kept_as c m said own_key)
    (kept_under m.kept (reference_of (proposal_by c m said)))

-- the leaf of an update, where the member has one (RFC 9420, 12.1.2)
abbrev pub updated_answer : Crypto → Member → List ℕ → Result LeafNode ℕ
updated_answer c m seed =
    member_at m.public.tree m.keys.leaf >>= λ old. Ok (updated_leaf c m old seed)

-- `NoSuchLeaf` (22) where the member has no leaf
abbrev pub own_leaf_check : Member → Result Passed ℕ
own_leaf_check m = member_check m.public.tree m.keys.leaf

-- a member that wasn't removed refuses with `NoSuchLeaf` (22) where no member is at the leaf, also when an allocation
-- fails
abbrev pub RefusesNonMember : {A : Type 0} → Member → ℕ → Result A Refusal → Type 0
RefusesNonMember m leaf result =
    m.gone ≡ false → RefusesOutright number_of (member_check m.public.tree leaf) result

-- A call does what the definition of a proposal says, and answers its message.
abbrev pub Proposes : Result (List ℕ × Member) ℕ → Member → Member → Result (Vec ℕ) Refusal → Type 0
Proposes defined old new result = DoesAs (λ v. v.items) number_of defined old new result

-- The call proposes to add a KeyPackage, or refuses with the number of what fails, or with `OutOfMemory`.
abbrev pub ProposesAdd : Crypto → KeyPackage → Member → Member → Result (Vec ℕ) Refusal → Type 0
ProposesAdd c offered old new result = Proposes (propose_add c old offered) old new result

-- The call proposes an update by a seed, or refuses with the number of what fails, or with `OutOfMemory`.
abbrev pub ProposesUpdate : Crypto → List ℕ → Member → Member → Result (Vec ℕ) Refusal → Type 0
ProposesUpdate c seed old new result = Proposes (propose_update c old seed) old new result

-- The call proposes to remove the member at a leaf, or refuses with the number of what fails, or with `OutOfMemory`.
abbrev pub ProposesRemove : Crypto → ℕ → Member → Member → Result (Vec ℕ) Refusal → Type 0
ProposesRemove c leaf old new result = Proposes (propose_remove c old leaf) old new result

-- The call proposes that the group carry these extensions, or refuses with the number of what fails, or with
-- `OutOfMemory`.
abbrev pub ProposesExtensions : Crypto → List Extension → Member → Member → Result (Vec ℕ) Refusal →
    Type 0
ProposesExtensions c list old new result = Proposes (propose_extensions c old list) old new result

-- The call answers whether the same message is kept under its reference, or refuses with `ReferenceTaken` (49). It
-- takes no memory.
abbrev pub TellsKnown : Member → SaidProposal → Result Bool Refusal → Type 0
TellsKnown m said result =
    AnswersOutright (λ b. b) number_of
    (known_as (kept_under m.kept said.reference) said.message.items) result

-- The call keeps a proposal that was sent, and answers its message, unless memory was refused.
abbrev pub KeepsSent : SaidProposal → Proposal → Option (List ℕ) → Member → Member →
    Result (Vec ℕ) Refusal → Type 0
KeepsSent said proposal own_key old new result =
    Proposes (keep_sent_proposal old said.message.items said.reference proposal own_key) old new
    result

-- The call sends a proposal and keeps it, or refuses with the number of what fails, or with `OutOfMemory`.
abbrev pub SendsAndKeeps : Crypto → Proposal → Option (List ℕ) → Member → Member →
    Result (Vec ℕ) Refusal → Type 0
SendsAndKeeps c proposal own_key old new result =
    Proposes (send_and_keep c old proposal own_key) old new result
