-- The texts of places aren't empty.
use Rattle.std.proofs.Common.{◌<◌, ◌++◌, ℕ, List, codes, length, arith, length-append}
use Rattle.std.specs.Fmt.{decimal}
use Rattle.mls_cli_json_place.specs.declared.place.JsonPlace.{JsonPlace}
use Rattle.mls_cli_json_place.specs.declared.place.JsonPlace.TheVariants as place
use Rattle.mls_cli_json_place.specs.declared.place.Wrong.{Wrong}
use Rattle.mls_cli_json_place.specs.declared.place.Wrong.TheVariants.{At, Extra}
use Rattle.mls_cli_json_place.specs.Text.{json_place_text, key_name, number_line, wrong_text}

longer : (front more : List ℕ) → 0 < length front → 0 < length (front ++ more)
longer front more lt = omega (arith, lt, length-append front more)

wrong_nonempty : (wrong : Wrong) → 0 < length (wrong_text wrong)
wrong_nonempty (At key) = longer (codes "key: ") (key_name key ++ codes "\n") (omega arith)
wrong_nonempty Extra = omega arith

line_nonempty : (name : List ℕ) (n : ℕ) → 0 < length (number_line name n)
line_nonempty name n = omega (arith, length-append (name ++ codes ": " ++ decimal n) (codes "\n"))

pub json_place_nonempty : (p : JsonPlace) → 0 < length (json_place_text p)
json_place_nonempty (place.Text line column) = longer (number_line (codes "line") line) (number_line (codes "column") column) (line_nonempty (codes "line") line)
json_place_nonempty place.NoArray = omega arith
json_place_nonempty (place.File wrong) = wrong_nonempty wrong
json_place_nonempty (place.Event index wrong) = longer (number_line (codes "event") index) (wrong_text wrong) (line_nonempty (codes "event") index)
json_place_nonempty (place.Vector index wrong) = longer (number_line (codes "vector") index) (wrong_text wrong) (line_nonempty (codes "vector") index)
