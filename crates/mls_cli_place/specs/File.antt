-- Where the bytes of a file have their first fault.
use Rattle.std.specs.Prelude.{ℕ, List, Option, Some, None}
use Rattle.mls_cli_text.specs.Form.{bytes_of_file}
use Rattle.mls_cli_text.specs.declared.form.Form.{Form}
use Rattle.mls_cli_place.specs.declared.file.Whole.{Whole}
use Rattle.mls_cli_place.specs.declared.file.Whole.TheVariants.{Message, Tree}
use Rattle.mls_cli_place.specs.declared.place.Place.{Place}
use Rattle.mls_cli_place.specs.Place.{place_in_message, place_in_tree}

-- of the bytes, by what they are read as
abbrev pub place_in : Whole → List ℕ → Option Place
place_in Message bytes = place_in_message bytes
place_in Tree bytes = place_in_tree bytes

abbrev pub place_on : Whole → Option (List ℕ) → Option Place
place_on whole None = None
place_on whole (Some bytes) = place_in whole bytes

-- of the bytes that a file has
abbrev pub place_in_file : Whole → Form → List ℕ → Option Place
place_in_file whole form text = place_on whole (bytes_of_file form text)
