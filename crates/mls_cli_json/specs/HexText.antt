-- Texts of hex digits in JSON.
use Rattle.std.specs.Prelude.{ℕ, List, Option, option_and_then, option_map}
use Rattle.std.specs.Result.{result_ok}
use Rattle.hex.specs.Hex.{decode_of, decode_sized}
use Rattle.serde_json.specs.Data.{Data}
use Rattle.mls_cli_json.specs.Json.{text_at}

-- the bytes that a hex text stands for
abbrev pub bytes_of : List ℕ → Option (List ℕ)
bytes_of text = result_ok (decode_of text)

-- the text at a key, and the bytes that it stands for
abbrev pub hex_at : List ℕ → Data → Option (Option (List ℕ))
hex_at key d = option_map bytes_of (text_at key d)

-- a seed has 64 digits
abbrev pub seed_of : List ℕ → Option (List ℕ)
seed_of text = result_ok (decode_sized text 32)

abbrev pub seed_at : List ℕ → Data → Option (List ℕ)
seed_at key d = option_and_then seed_of (text_at key d)
