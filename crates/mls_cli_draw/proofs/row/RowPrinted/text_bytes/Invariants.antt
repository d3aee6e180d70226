use Rattle.std.proofs.Common.{◌≡◌, encode_utf8_all, string_bytes, take}
use Rattle.mls_cli_draw.proofs.row.RowPrinted.text_bytes.Given as goal

abbrev pub invariant-loop-character : goal.invariant-loop-character
invariant-loop-character l = string_bytes l.text ≡ encode_utf8_all (take l.character-index l.character-items)
