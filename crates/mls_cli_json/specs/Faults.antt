-- What a look into a JSON file answers.
use Rattle.std.specs.Prelude.{◌≡◌, ℕ, Option, Some, None, Result, Ok, Err}
use Rattle.mls_cli_json.specs.declared.error.JsonError.{JsonError}
use Rattle.mls_cli_json.specs.declared.error.JsonError.TheVariants as error

-- the number of the refusal
abbrev pub number_of : JsonError → ℕ
number_of error.OutOfMemory = 1
number_of error.NotHex = 8
number_of error.BadJson = 9

-- What a call returned, seen by view, is what was found. The error is want of memory, or that nothing was found.
abbrev pub Finds : {X Y : Type 0} → (X → Y) → Result X JsonError → Option Y → Type 0
Finds view (Ok x) found = found ≡ Some (view x)
Finds view (Err error.OutOfMemory) found = Unit {0}
Finds view (Err error.BadJson) found = found ≡ None
Finds view (Err error.NotHex) found = ⊥
