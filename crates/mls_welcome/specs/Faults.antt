-- The numbers of these refusals, and what calls promise by these numbers.
use Rattle.std.specs.Prelude.{◌≡◌, ℕ, ◌<◌, ◌≤◌, List, length, Result, MatchResult}
use Rattle.std.specs.Global.{Vec}
use Rattle.mls_wire.specs.Checks.{Answers, AnswersOutright, Passed, passed}
use Rattle.mls_leaf.specs.Limits.{input_limit}
use Rattle.mls_leaf.specs.Faults.{number_of as number_of_leaf}
use Rattle.mls_welcome.specs.declared.error.WelcomeError.{WelcomeError}
use Rattle.mls_welcome.specs.declared.error.WelcomeError.TheVariants.{Leaf, BadKey}

-- the number that the program answers
abbrev pub number_of : WelcomeError → ℕ
number_of (Leaf e) = number_of_leaf e
number_of BadKey = 36

-- A call answers what the definition does, or refuses with its number. Where memory was refused it says nothing.
abbrev pub Gives : {A : Type 0} → Result A ℕ → Result A WelcomeError → Type 0
Gives defined result = Answers (λ x. x) number_of defined result

-- A call answers the bytes that the definition does, or refuses with its number. Where memory was refused it says nothing.
abbrev pub GivesBytes : Result (List ℕ) ℕ → Result (Vec ℕ) WelcomeError → Type 0
GivesBytes defined result = Answers (λ v. v.items) number_of defined result

-- These checks pass, or the call refuses with the number of the first that fails, also when an allocation fails.
abbrev pub PassesOutright : {A : Type 0} → Result Passed ℕ → Result A WelcomeError → Type 0
PassesOutright checks result = AnswersOutright (λ _. passed) number_of checks result

-- The text has no more bytes than a message may have, or the call refuses with `TooLong` (6).
abbrev pub Measures : {A : Type 0} → List ℕ → Result A WelcomeError → Type 0
Measures bytes result =
    MatchResult result (λ _. length bytes ≤ input_limit)
    (λ e. (number_of e ≡ 6) × (input_limit < length bytes))
