-- The value that an input spells, from its first byte to its last.
use Rattle.std.specs.Prelude.{ℕ, List, length, Result, Ok, Err, nat_lt, ◌==◌, if◌then◌else◌}
use Rattle.mls_wire.specs.Reading.{◌>>=◌}
use Rattle.mls_wire.specs.Format.{Format}

-- the value that all of the bytes spell: `TooLong` (6) where there are more than this limit, then the first fault of
-- reading, and `Trailing` (3) where bytes are left
unfoldable pub whole : {V : Type 0} → Format V → ℕ → List ℕ → Result V ℕ
whole format limit bytes =
    if nat_lt limit (length bytes) then Err 6
    else (format.read bytes >>= λ x. if length x.1 == 0 then Ok x.0 else Err 3)
