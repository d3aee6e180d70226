-- A commit call, by another name of its list.
use Rattle.std.proofs.Common.{◌≡◌, ℕ, Bool, List, Option, Result, subst}
use Rattle.mls_types.specs.declared.commit.ProposalOrRef.{ProposalOrRef}
use Rattle.mls_suite.specs.Crypto.{Crypto}
use Rattle.mls_model.specs.Make.{commit_call}
use Rattle.mls_model.specs.Member.{Member}

pub answer_of_same : (c : Crypto) (m : Member) (list same : List ProposalOrRef) (wants : Bool) (seed : List ℕ) (r : Result ((List ℕ × Option (List ℕ)) × Member) ℕ) → list ≡ same → commit_call c m list wants seed ≡ r → commit_call c m same wants seed ≡ r
answer_of_same c m list same wants seed r e h = subst (λ (l : List ProposalOrRef). commit_call c m l wants seed ≡ r) e h
