-- What reading gives of formats that are put together, and what reading past them does.
use Rattle.std.specs.Prelude.{ℕ, zero, suc, ◌<◌, ◌==◌, Bool, cond, if◌then◌else◌, List, [], ◌∷◌, length, Option, Result, Ok, Err}
use Rattle.std.specs.Option.{option_map_or}
use Rattle.mls_wire.specs.Reading.{◌>>=◌}
use Rattle.mls_wire.specs.Format.{Format}

-- the field behind a first one that was read, and both together
abbrev pub next_read : {A B : Type 0} → (A → Format B) → A × List ℕ → Result ((A × B) × List ℕ) ℕ
next_read b x = (b x.0).read x.1 >>= λ y. Ok ((x.0, y.0), y.1)

-- what was read, seen as another type
abbrev pub seen_read : {A V : Type 0} → (A → V) → A × List ℕ → Result (V × List ℕ) ℕ
seen_read make x = Ok (make x.0, x.1)

-- the spelling of what a variant holds; of a value of another variant no bytes
abbrev pub spell_some : {A V : Type 0} → Format A → (V → Option A) → V → List ℕ
spell_some a part v = option_map_or a.spell (part v) []

-- the body behind a tag that was read
abbrev pub body_read : {V : Type 0} → (ℕ → Format V) → ℕ × List ℕ → Result (V × List ℕ) ℕ
body_read body t = (body t.0).read t.1

-- a value that was read and passes a test, else the fault
abbrev pub if_passes : {V : Type 0} → (V → Bool) → ℕ → V × List ℕ → Result (V × List ℕ) ℕ
if_passes test fault x = cond (test x.0) (Ok x) (Err fault)

-- The items that all of the bytes spell, one after the other. Each takes a byte or more, so there are at most as many
-- as bytes: a count of steps that begins at their length never runs out.
abbrev pub items_at : {V : Type 0} → (List ℕ → Result (V × List ℕ) ℕ) → ℕ → List ℕ → Result (List V) ℕ
items_at read fuel [] = Ok []
items_at read zero (b ∷ bytes) = Err 2
items_at read (suc fuel) (b ∷ bytes) =
    read (b ∷ bytes) >>= λ first. items_at read fuel first.1 >>= λ others. Ok (first.0 ∷ others)

-- no value takes no byte
abbrev pub IsNonempty : {V : Type 0} → Format V → Type 0
IsNonempty {V} a = (v : V) → a.Fits v → 0 < length (a.spell v)

-- the items that the content of a vector spells, and the bytes after the vector
abbrev pub all_read : {V : Type 0} → Format V → List ℕ × List ℕ → Result (List V × List ℕ) ℕ
all_read a x = items_at a.read (length x.0) x.0 >>= λ vs. Ok (vs, x.1)

-- reading takes no byte
abbrev pub read_nothing : List ℕ → Result (Unit {0} × List ℕ) ℕ
read_nothing bytes = Ok (tt, bytes)

-- ---- reading past, with no value made

-- reading past the body behind a tag that was read
abbrev pub body_past : {V : Type 0} → (ℕ → Format V) → ℕ × List ℕ → Result (List ℕ) ℕ
body_past body t = (body t.0).pass t.1

-- reading past items, one after the other
abbrev pub items_past : (List ℕ → Result (List ℕ) ℕ) → ℕ → List ℕ → Result (Unit {0}) ℕ
items_past pass fuel [] = Ok tt
items_past pass zero (b ∷ bytes) = Err 2
items_past pass (suc fuel) (b ∷ bytes) = pass (b ∷ bytes) >>= items_past pass fuel

-- what was read without its value, or the fault
abbrev pub without_value : {V : Type 0} → Result V ℕ → Result (Unit {0}) ℕ
without_value (Ok v) = Ok tt
without_value (Err e) = Err e

-- reading past the items of a vector whose content was read
abbrev pub all_past : {V : Type 0} → Format V → List ℕ × List ℕ → Result (List ℕ) ℕ
all_past a x = items_past a.pass (length x.0) x.0 >>= λ _. Ok x.1

-- a value that was read with no byte left behind it, else `Trailing` (3)
abbrev pub require_end : {V : Type 0} → V × List ℕ → Result V ℕ
require_end x = if length x.1 == 0 then Ok x.0 else Err 3

-- no byte is left, else `Trailing` (3)
abbrev pub ended_past : List ℕ → Result (Unit {0}) ℕ
ended_past rest = if length rest == 0 then Ok tt else Err 3
