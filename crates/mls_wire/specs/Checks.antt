-- Ordered lists of checks, of which the first that fails decides, and what a call promises by such a list.
use Rattle.std.specs.Prelude.{◌≡◌, ◌≢◌, ℕ, Bool, if◌then◌else◌, Result, Ok, Err, Option, Some, None}

-- What a check gives that passes and has no value. Checks in their order stand in a `do`, over the `◌>>=◌` of Reading
-- and the `◌>>◌` below.
pub data Passed : Type 0 where
  passed : Passed

-- a check, and what comes where it passes; else its number decides
infixl 10 ◌>>◌
abbrev pub ◌>>◌ : {A : Type 0} → Result Passed ℕ → Result A ℕ → Result A ℕ
(Ok x) >> rest = rest
(Err n) >> rest = Err n

-- a check that a test passes, or else fails with this number
abbrev pub require : ℕ → Bool → Result Passed ℕ
require n test = if test then Ok passed else Err n

-- the value where there is one; else the check fails with this number
abbrev pub require_some : {A : Type 0} → ℕ → Option A → Result A ℕ
require_some n (Some x) = Ok x
require_some n None = Err n

-- A call answers what the definition does: its value, or the number of its error. Where memory was refused,
-- `OutOfMemory` (1), nothing is said of the definition.
abbrev pub Answers : {A B E : Type 0} → (B → A) → (E → ℕ) → Result A ℕ → Result B E → Type 0
Answers value number defined (Ok x) = defined ≡ Ok (value x)
Answers value number defined (Err e) = number e ≢ 1 → defined ≡ Err (number e)

-- A call that takes no memory answers what the definition does: its value, or the number of its error.
abbrev pub AnswersOutright : {A B E : Type 0} → (B → A) → (E → ℕ) → Result A ℕ → Result B E → Type 0
AnswersOutright value number defined (Ok x) = defined ≡ Ok (value x)
AnswersOutright value number defined (Err e) = defined ≡ Err (number e)

-- A call that may change a state does what the definition says. A refusal changes nothing; its number is
-- the definition's, unless memory was refused.
abbrev pub DoesAs : {A B E S : Type 0} → (B → A) → (E → ℕ) → Result (A × S) ℕ → S → S → Result B E → Type 0
DoesAs value number defined old new (Ok x) = defined ≡ Ok (value x, new)
DoesAs value number defined old new (Err e) = (new ≡ old) × (number e ≢ 1 → defined ≡ Err (number e))
