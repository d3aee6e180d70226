-- The numbers of a group's refusals, and what calls promise by these numbers.
use Rattle.std.specs.Prelude.{ℕ, Result}
use Rattle.mls_wire.specs.Checks.{Answers, Passed, passed}
use Rattle.mls_tree.specs.Faults.{number_of as number_of_tree}
use Rattle.mls_checks.specs.Faults.{number_of as number_of_check}
use Rattle.mls_public_group.specs.declared.error.GroupError.{GroupError}
use Rattle.mls_public_group.specs.declared.error.GroupError.TheVariants.{Tree, Check, CommitterUpdate, CommitterRemoved, SameLeafTwice, SecondExtensions}

-- the number that the program answers
abbrev pub number_of : GroupError → ℕ
number_of (Tree e) = number_of_tree e
number_of (Check e) = number_of_check e
number_of CommitterUpdate = 61
number_of CommitterRemoved = 62
number_of SameLeafTwice = 63
number_of SecondExtensions = 68

-- A call answers what the definition does, or refuses with its number. Where memory was refused it says nothing.
abbrev pub Gives : {A : Type 0} → Result A ℕ → Result A GroupError → Type 0
Gives defined result = Answers (λ x. x) number_of defined result

-- These checks pass, or the call refuses with the number of the first that fails. Where memory was refused it says
-- nothing.
abbrev pub Passes : {A : Type 0} → Result Passed ℕ → Result A GroupError → Type 0
Passes checks result = Answers (λ _. passed) number_of checks result
