-- What a call leaves, part by part.
use Rattle.std.specs.Prelude.{◌≡◌, ℕ, Option, None, Result, Ok, Err}
use Rattle.mls_calls.specs.Shown.{boxed}
use Rattle.mls_calls.specs.declared.done.Fruit.{Fruit}
use Rattle.mls_calls.specs.declared.done.Parts.{Parts}
use Rattle.mls_calls.specs.declared.held.Held.{Held}

abbrev pub made_of : Result Fruit ℕ → Option Held
made_of (Ok f) = boxed f.made
made_of (Err n) = None

abbrev pub other_of : Result Fruit ℕ → Option Held
other_of (Ok f) = boxed f.other
other_of (Err n) = None

abbrev pub value_of : Result Fruit ℕ → ℕ
value_of (Ok f) = f.value
value_of (Err n) = 0

-- 0 where the call is good
abbrev pub answer_number : Result Fruit ℕ → ℕ
answer_number (Ok f) = 0
answer_number (Err n) = n

abbrev pub ArePartsOf : Result Fruit ℕ → Parts → Type 0
ArePartsOf outcome p =
    (boxed p.made ≡ made_of outcome) × (boxed p.other ≡ other_of outcome)
    × (p.value ≡ value_of outcome) × (p.answer ≡ answer_number outcome)
