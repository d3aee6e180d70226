-- Inputs of their own, as the content of a vector: what reading them to their end gives (RFC 9420, 2.1.2 and
-- 12.4.3.3).
use Rattle.std.specs.Prelude.{◌≡◌, ℕ, ◌==◌, List, [], length, Option, Some, None, Result, Ok, Err, if◌then◌else◌}
use Rattle.std.specs.Int.{w16}
use Rattle.mls_wire.specs.Reading.{◌>>=◌, uint_at}
use Rattle.mls_wire.specs.Format.{IsBytes, Format}
use Rattle.mls_wire.specs.CombineReads.{without_value}

-- How a value is spelled, which values have a spelling (`Fits`), and reading all of the bytes, which gives a value or
-- the number of the first fault.
pub record Whole (V : Type 0) : Type 1 where
  pub spell : V → List ℕ
  pub Fits : V → Type 0
  pub read : List ℕ → Result V ℕ
  pub takes : (bytes : List ℕ) (v : V) → IsBytes bytes → read bytes ≡ Ok v → (bytes ≡ spell v) × Fits v
  pub again : (v : V) → Fits v → read (spell v) ≡ Ok v
  -- reading past all of the bytes, with no value made
  pub pass : List ℕ → Result (Unit {0}) ℕ
  pub passes : (bytes : List ℕ) → pass bytes ≡ without_value (read bytes)

-- ---- no value or one

-- a value that was read with no byte left behind it; else the type of two bytes that follows is read, and this fault is
-- answered
abbrev pub alone : {V : Type 0} → ℕ → V × List ℕ → Result (Option V) ℕ
alone fault x = if length x.1 == 0 then Ok (Some x.0) else (uint_at w16 x.1 >>= λ _. Err fault)

-- reading past such a value, whose bytes were read past
abbrev pub alone_past : ℕ → List ℕ → Result (Unit {0}) ℕ
alone_past fault rest = if length rest == 0 then Ok tt else (uint_at w16 rest >>= λ _. Err fault)

-- no bytes where there is no value, else its spelling
abbrev pub one_spelling_of : {V : Type 0} → Format V → Option V → List ℕ
one_spelling_of a None = []
one_spelling_of a (Some v) = a.spell v

-- no value has a spelling, and a value where its format says so
abbrev pub OneFits : {V : Type 0} → Format V → Option V → Type 0
OneFits a None = Unit {0}
OneFits a (Some v) = a.Fits v

-- no value where there are no bytes, else one alone
abbrev pub one_at : {V : Type 0} → Format V → ℕ → List ℕ → Result (Option V) ℕ
one_at a fault bytes = if length bytes == 0 then Ok None else (a.read bytes >>= alone fault)

-- reading past no value, or one alone
abbrev pub one_past : {V : Type 0} → Format V → ℕ → List ℕ → Result (Unit {0}) ℕ
one_past a fault bytes = if length bytes == 0 then Ok tt else (a.pass bytes >>= alone_past fault)

-- ---- behind a header

-- a value, and the bytes after the vector
abbrev pub with_rest : {V : Type 0} → List ℕ → V → Result (V × List ℕ) ℕ
with_rest rest v = Ok (v, rest)

-- the value that the content of a vector spells, and the bytes after the vector
abbrev pub all_at : {V : Type 0} → Whole V → List ℕ × List ℕ → Result (V × List ℕ) ℕ
all_at w x = w.read x.0 >>= λ v. with_rest x.1 v

-- reading past a vector whose content was read
abbrev pub whole_past : {V : Type 0} → Whole V → List ℕ × List ℕ → Result (List ℕ) ℕ
whole_past w x = w.pass x.0 >>= λ _. Ok x.1
