-- What calls that load a saved form promise, by the numbers of their refusals.
use Rattle.std.specs.Prelude.{ℕ, Result}
use Rattle.mls_wire.specs.Checks.{Answers, AnswersOutright, Passed, passed}

-- A call answers what the definition does, or refuses with its number. Where memory was refused it says nothing.
abbrev pub Loads : {A E : Type 0} → (E → ℕ) → Result A ℕ → Result A E → Type 0
Loads number defined result = Answers (λ x. x) number defined result

-- These checks pass, or the call refuses with the number of the first that fails. Where memory was refused it says
-- nothing.
abbrev pub Passes : {A E : Type 0} → (E → ℕ) → Result Passed ℕ → Result A E → Type 0
Passes number checks result = Answers (λ _. passed) number checks result

-- These checks pass, or a call that takes no memory refuses with the number of the first that fails.
abbrev pub PassesOutright : {A E : Type 0} → (E → ℕ) → Result Passed ℕ → Result A E → Type 0
PassesOutright number checks result = AnswersOutright (λ _. passed) number checks result
