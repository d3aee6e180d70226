-- What is wrong with an object of a format, and where a file has it.
use Rattle.std.specs.Prelude.{◌≡◌, ◌==◌, ℕ, Bool, false, if◌then◌else◌, Option, Some, None, option_map, is_some, Result, Ok, Err}
use Rattle.serde_json.specs.Data.{Data}
use Rattle.serde_json.specs.View.{view}
use Rattle.serde_json.specs.declared.value.Value.{Value}
use Rattle.mls_cli_json_place.specs.declared.key.Key.{Key}
use Rattle.mls_cli_json_place.specs.declared.place.JsonPlace.{JsonPlace}
use Rattle.mls_cli_json_place.specs.declared.place.JsonPlace.TheVariants as place
use Rattle.mls_cli_json_place.specs.declared.place.Wrong.{Wrong}
use Rattle.mls_cli_json_place.specs.declared.place.Wrong.TheVariants.{At, Extra}

-- a row of a format's table: the value at a key can't be read, or else what the other rows say
abbrev pub at_key : Key → Bool → Option Wrong → Option Wrong
at_key key right others = if right then others else Some (At key)

-- behind all rows: nothing is wrong, or there are other members than the format's
abbrev pub no_more : Bool → Option Wrong
no_more counted = if counted then None else Some Extra

-- where a file has its fault
pub data Spot : Type 0 where
  -- it is no text, or no JSON
  no_json : Spot
  -- it is no array
  no_array : Spot
  -- in its own object
  in_file : Wrong → Spot
  -- in an event of a recording
  in_event : ℕ → Wrong → Spot
  -- in a vector
  in_vector : ℕ → Wrong → Spot

-- The line and the column where no JSON is are left open.
abbrev pub spot_of : JsonPlace → Spot
spot_of (place.Text line column) = no_json
spot_of place.NoArray = no_array
spot_of (place.File wrong) = in_file wrong
spot_of (place.Event index wrong) = in_event index wrong
spot_of (place.Vector index wrong) = in_vector index wrong

-- the spot that a call found, if there is one
abbrev pub spots : Option JsonPlace → Option Spot
spots found = option_map spot_of found

-- the fault of a file, by what there is of the value that it is
abbrev pub spot_by : (Data → Option Spot) → Option Data → Option Spot
spot_by spot None = Some no_json
spot_by spot (Some d) = spot d

-- a file was refused with `BadJson` (9)
abbrev pub is_bad_json : {A : Type 0} → Result A ℕ → Bool
is_bad_json (Ok x) = false
is_bad_json (Err n) = n == 9

-- There is a place exactly when the file is refused so.
abbrev pub TellsBadJson : {A : Type 0} → Result A ℕ → Option JsonPlace → Type 0
TellsBadJson read found = is_some found ≡ is_bad_json read

-- the value that a text is, where it was read
abbrev pub read_view : {E : Type 0} → Result Value E → Option Data
read_view (Ok value) = Some (view value)
read_view (Err e) = None
