-- No object is empty, as it is printed.
use Rattle.std.proofs.Common.{◌<◌, ◌++◌, ℕ, List, codes, length, arith, length-append}
use Rattle.mls_cli_json_page.specs.JsonPage.{printed}
use Rattle.mls_cli_json_page.specs.declared.JsonText.{JsonText}

longer : (front : List ℕ) → 0 < length (front ++ codes "\n")
longer front = omega (arith, length-append front (codes "\n"))

pub printed_nonempty : (t : JsonText) → 0 < length (printed t)
printed_nonempty t = longer t.text.items
