-- Texts that are no larger than a message may be, and values that have a spelling where it would be short.
use Rattle.std.specs.Prelude.{◌≡◌, ◌≢◌, ℕ, ◌<◌, ◌^◌, List, length, Result, Ok}
use Rattle.mls_wire.specs.Checks.{◌>>◌}
use Rattle.mls_wire.specs.Format.{Format}
use Rattle.mls_leaf.specs.Faults.{number_of}
use Rattle.mls_leaf.specs.Limits.{input_limit}
use Rattle.mls_leaf.specs.declared.error.LeafError.{LeafError}
use Rattle.mls_model.specs.Messages.{require_within_limit}

-- the text, or `TooLong` (6) where it is larger than a message may be
abbrev pub limited_text : List ℕ → Result (List ℕ) ℕ
limited_text bytes = require_within_limit bytes >> Ok bytes

-- the numbers of the value are in range: it has a spelling, unless a vector in it is too long
abbrev pub FitsIfShort : {V : Type 0} → Format V → V → Type 0
FitsIfShort format v = length (format.spell v) < 2 ^ 30 → format.Fits v

-- the error is `OutOfMemory`, or `TooLong` (6) of a text that is larger than a message may be
abbrev pub IsLong : List ℕ → LeafError → Type 0
IsLong text e = number_of e ≢ 1 → (number_of e ≡ 6) × (input_limit < length text)
