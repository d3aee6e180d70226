-- No row is empty, as it is printed.
use Rattle.std.proofs.Common.{encode_utf8_all, ◌<◌, ◌++◌, ℕ, List, codes, length, arith, length-append}
use Rattle.mls_cli_draw.specs.Picture.{row_text}
use Rattle.mls_cli_draw.specs.declared.row.Row.{Row}

longer : (front : List ℕ) → 0 < length (front ++ codes "\n")
longer front = omega (arith, length-append front (codes "\n"))

pub row_nonempty : (r : Row) → 0 < length (row_text r.characters.items)
row_nonempty r = longer (encode_utf8_all r.characters.items)
