-- Good members are kept: by creation, proposals, commits, drops, deliveries and joins, whatever bytes they meet.
use Rattle.std.specs.Prelude.{◌≡◌, ℕ, Bool, true, List, Option, Ok}
use Rattle.std.specs.List.{AllByRecursion}
use Rattle.mls_wire.specs.Format.{IsBytes}
use Rattle.mls_leaf.specs.GroupExtensions.{are_allowed}
use Rattle.mls_leaf.specs.KeyPackage.{key_package}
use Rattle.mls_leaf.specs.declared.extension.Extension.{Extension}
use Rattle.mls_leaf.specs.declared.key_package.KeyPackage.{KeyPackage}
use Rattle.mls_types.specs.Commit.{proposal_or_ref}
use Rattle.mls_types.specs.declared.commit.ProposalOrRef.{ProposalOrRef}
use Rattle.mls_suite.specs.Crypto.{Crypto, Lawful}
use Rattle.mls_model.specs.declared.effect.Effect.{Effect}
use Rattle.mls_model.specs.MemberInvariant.{IsGoodMember, IsGoodCandidate}
use Rattle.mls_model.specs.Candidate.{Candidate, new_candidate, create_group}
use Rattle.mls_model.specs.Join.{JoinedMember, join_verdict}
use Rattle.mls_model.specs.Make.{commit_call}
use Rattle.mls_model.specs.Member.{Member, without_pending}
use Rattle.mls_model.specs.Propose.{propose_add, propose_update, propose_remove, propose_extensions}
use Rattle.mls_model.specs.Verdict.{verdict}

-- ---- candidates and groups

-- a candidate that is made has the private keys of its own KeyPackage, which passes its checks
abbrev pub CandidatesGood : Type 0
CandidatesGood = (c : Crypto) → Lawful c → (identity seed : List ℕ) (k : Candidate) →
    new_candidate c identity seed ≡ Ok k → IsGoodCandidate c k

-- a candidate that creates a group is a good member of it
abbrev pub CreatorsGood : Type 0
CreatorsGood = (c : Crypto) (k : Candidate) (group seed : List ℕ) (m : Member) → IsGoodCandidate c k →
    create_group c k group seed ≡ Ok m → IsGoodMember c m

-- a candidate that joins is a good member, whatever Welcome it was given
abbrev pub JoinersGood : Type 0
JoinersGood = (c : Crypto) (k : Candidate) (bytes : List ℕ) (joined : JoinedMember) → IsGoodCandidate c k →
    join_verdict c k bytes ≡ Ok joined → IsGoodMember c joined.member

-- ---- calls of a member

-- a good member is good after each proposal that it makes
abbrev pub AddsKeepGood : Type 0
AddsKeepGood = (c : Crypto) (m : Member) (offered : KeyPackage) (x : List ℕ × Member) → IsGoodMember c m →
    key_package.Fits offered → propose_add c m offered ≡ Ok x → IsGoodMember c x.1

abbrev pub UpdatesKeepGood : Type 0
UpdatesKeepGood = (c : Crypto) (m : Member) (seed : List ℕ) (x : List ℕ × Member) → IsGoodMember c m →
    propose_update c m seed ≡ Ok x → IsGoodMember c x.1

abbrev pub RemovesKeepGood : Type 0
RemovesKeepGood = (c : Crypto) (m : Member) (leaf : ℕ) (x : List ℕ × Member) → IsGoodMember c m →
    propose_remove c m leaf ≡ Ok x → IsGoodMember c x.1

abbrev pub ExtensionsKeepGood : Type 0
ExtensionsKeepGood = (c : Crypto) (m : Member) (list : List Extension) (x : List ℕ × Member) → IsGoodMember c m →
    are_allowed list ≡ true → propose_extensions c m list ≡ Ok x → IsGoodMember c x.1

-- a good member is good after each commit that it makes, with that as its pending one
abbrev pub CommitsKeepGood : Type 0
CommitsKeepGood = (c : Crypto) (m : Member) (list : List ProposalOrRef) (wants_path : Bool) (seed : List ℕ)
    (x : (List ℕ × Option (List ℕ)) × Member) →
    IsGoodMember c m → AllByRecursion proposal_or_ref.Fits list → commit_call c m list wants_path seed ≡ Ok x →
    IsGoodMember c x.1

abbrev pub DropsKeepGood : Type 0
DropsKeepGood = (c : Crypto) (m : Member) → IsGoodMember c m → IsGoodMember c (without_pending m)

-- a good member is good after whatever bytes it takes: proposals, commits of others, its pending one
abbrev pub DeliveriesKeepGood : Type 0
DeliveriesKeepGood = (c : Crypto) (m : Member) (bytes : List ℕ) (x : Effect × Member) → IsGoodMember c m →
    IsBytes bytes → verdict c m bytes ≡ Ok x → IsGoodMember c x.1
