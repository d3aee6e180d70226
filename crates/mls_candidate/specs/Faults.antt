-- The numbers of these refusals, and what calls promise by these numbers.
use Rattle.std.specs.Prelude.{ℕ, List, Result}
use Rattle.std.specs.Global.{Vec}
use Rattle.mls_wire.specs.Checks.{Answers}
use Rattle.mls_leaf.specs.Faults.{number_of as number_of_leaf}
use Rattle.mls_candidate.specs.declared.error.CandidateError.{CandidateError}
use Rattle.mls_candidate.specs.declared.error.CandidateError.TheVariants.{Leaf, InitKeySame}

-- the number that the program answers
abbrev pub number_of : CandidateError → ℕ
number_of (Leaf e) = number_of_leaf e
number_of InitKeySame = 57

-- A call answers what the definition does, or refuses with its number. Where memory was refused it says nothing.
abbrev pub Gives : {A : Type 0} → Result A ℕ → Result A CandidateError → Type 0
Gives defined result = Answers (λ x. x) number_of defined result

-- A call answers the bytes that the definition does, or refuses with its number. Where memory was refused it says nothing.
abbrev pub GivesBytes : Result (List ℕ) ℕ → Result (Vec ℕ) CandidateError → Type 0
GivesBytes defined result = Answers (λ v. v.items) number_of defined result
