-- The numbers of these refusals, and what calls promise by these numbers.
use Rattle.std.specs.Prelude.{ℕ, Result}
use Rattle.mls_wire.specs.Checks.{Answers, DoesAs}
use Rattle.mls_leaf.specs.Faults.{number_of as number_of_leaf}
use Rattle.mls_public_group.specs.Faults.{number_of as number_of_group}
use Rattle.mls_commit.specs.Faults.{number_of as number_of_commit}
use Rattle.mls_treekem.specs.Faults.{number_of as number_of_keys}
use Rattle.mls_candidate.specs.Faults.{number_of as number_of_candidate}
use Rattle.mls_join.specs.Faults.{number_of as number_of_join}
use Rattle.mls_make.specs.Faults.{number_of as number_of_make}
use Rattle.mls_member.specs.declared.error.Refusal.{Refusal}
use Rattle.mls_member.specs.declared.error.Refusal.TheVariants.{Leaf, Group, Commit, Keys, Candidate, Join, Make, Gone, NotPublicMessage, WrongGroup, WrongEpoch, SenderNotMember, NotHandshake, BadMembershipTag, BadSignature, OwnUnknown, ReferenceTaken, UnknownReference, BadConfirmationTag, EpochEnd, PendingCommit}

-- the number that the program answers
abbrev pub number_of : Refusal → ℕ
number_of (Leaf e) = number_of_leaf e
number_of (Group e) = number_of_group e
number_of (Commit e) = number_of_commit e
number_of (Keys e) = number_of_keys e
number_of (Candidate e) = number_of_candidate e
number_of (Join e) = number_of_join e
number_of (Make e) = number_of_make e
number_of Gone = 40
number_of NotPublicMessage = 41
number_of WrongGroup = 42
number_of WrongEpoch = 43
number_of SenderNotMember = 44
number_of NotHandshake = 45
number_of BadMembershipTag = 46
number_of BadSignature = 47
number_of OwnUnknown = 48
number_of ReferenceTaken = 49
number_of UnknownReference = 60
number_of BadConfirmationTag = 65
number_of EpochEnd = 66
number_of PendingCommit = 67

-- A call answers what the definition does, or refuses with its number. Where memory was refused it says nothing.
abbrev pub Gives : {A : Type 0} → Result A ℕ → Result A Refusal → Type 0
Gives defined result = Answers (λ x. x) number_of defined result

-- A call does what the definition says, from an old state to a new one. A refusal changes nothing, and its number is
-- the definition's, unless memory was refused.
abbrev pub Does : {A S : Type 0} → Result (A × S) ℕ → S → S → Result A Refusal → Type 0
Does defined old new result = DoesAs (λ x. x) number_of defined old new result
