-- Lists in JSON, and the number of a file's refusal. The shape of a list is a fault before a text that isn't hex: such a text
-- is kept, and a list with one is nothing, where the shape is right.
use Rattle.std.specs.Prelude.{ℕ, List, [], ◌∷◌, Option, Some, None, Result, Ok, Err}
use Rattle.serde_json.specs.Data.{Data, Items, no_items, item}
use Rattle.mls_cli_json.specs.Json.{◌>>=◌}

-- another one in front, where all texts are hex
abbrev pub prepend_if_hex : {X : Type 0} → Option X → Option (List X) → Option (List X)
prepend_if_hex None more = None
prepend_if_hex (Some x) None = None
prepend_if_hex (Some x) (Some xs) = Some (x ∷ xs)

-- what each value of an array is
unfoldable pub each_of : {X : Type 0} → (Data → Option (Option X)) → Items → Option (Option (List X))
each_of read no_items = Some (Some [])
each_of read (item d ds) = do
  x ← read d
  xs ← each_of read ds
  Some (prepend_if_hex x xs)

-- the value; `BadJson` (9) where the shape is wrong, and else `NotHex` (8) where a text isn't hex
abbrev pub value_or_number : {X : Type 0} → Option (Option X) → Result X ℕ
value_or_number None = Err 9
value_or_number (Some None) = Err 8
value_or_number (Some (Some x)) = Ok x
