-- What a caller with two members knows of their calls.
use Rattle.std.specs.Prelude.{◌≡◌, ◌≢◌, ℕ, true, List, [], ◌∷◌, Result, Ok, Err, IfOk}
use Rattle.std.specs.Global.{Box}
use Rattle.mls_wire.specs.Checks.{Answers}
use Rattle.mls_wire.specs.Reading.{◌>>=◌}
use Rattle.mls_leaf.specs.declared.proposal.Proposal.TheVariants.{Add}
use Rattle.mls_types.specs.declared.commit.ProposalOrRef.{ProposalOrRef}
use Rattle.mls_types.specs.declared.commit.ProposalOrRef.TheVariants as listed
use Rattle.mls_suite.specs.Crypto.{Crypto}
use Rattle.mls_model.specs.Candidate.{Candidate}
use Rattle.mls_model.specs.Join.{JoinedMember, join_verdict}
use Rattle.mls_model.specs.Make.{commit_call}
use Rattle.mls_model.specs.Member.{Member}
use Rattle.mls_member.specs.Answers.{ReachesAll}
use Rattle.mls_member.specs.Faults.{number_of}
use Rattle.mls_member.specs.declared.commit.Made.{Made}
use Rattle.mls_member.specs.declared.error.Refusal.{Refusal}

-- the list of a commit that adds a candidate by its own KeyPackage (RFC 9420, 12.1.1)
abbrev pub addition_of : Candidate → List ProposalOrRef
addition_of k = listed.Proposal (Add k.offered) ∷ []

-- a call is refused what this is refused, or for want of memory
abbrev pub IsRefusedAs : {A : Type 0} → Result A ℕ → Refusal → Type 0
IsRefusedAs defined e = number_of e ≢ 1 → defined ≡ Err (number_of e)

-- the commit that adds a candidate reaches the group (RFC 9420, 12.4)
abbrev pub AdditionReaches : Crypto → Candidate → Member → Member → Result Made Refusal → Type 0
AdditionReaches c k old new result = IfOk result (ReachesAll c old new (addition_of k))

-- a call is refused what a commit with a path is refused that adds a candidate, or for want of memory
abbrev pub IsRefusedAddition : Crypto → Candidate → List ℕ → Member → Refusal → Type 0
IsRefusedAddition c k seed old e = IsRefusedAs (commit_call c old (addition_of k) true seed) e

-- a call is refused what a commit with a path and no proposals is refused, or for want of memory
abbrev pub IsRefusedRenewal : Crypto → List ℕ → Member → Refusal → Type 0
IsRefusedRenewal c seed old e = IsRefusedAs (commit_call c old [] true seed) e

-- the member that a candidate becomes by a Welcome (RFC 9420, 12.4.3.1)
unfoldable pub member_by_welcome : Crypto → Candidate → List ℕ → Result Member ℕ
member_by_welcome c k bytes = join_verdict c k bytes >>= λ (j : JoinedMember). Ok j.member

-- The call answers that member in a box, or refuses with the number of what fails, or with `OutOfMemory`.
abbrev pub Enters : Crypto → Candidate → List ℕ → Result (Box Member) Refusal → Type 0
Enters c k bytes result = Answers (λ m. m.value) number_of (member_by_welcome c k bytes) result
