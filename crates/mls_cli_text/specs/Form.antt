-- How a file has bytes, and which.
use Rattle.std.specs.Prelude.{ℕ, List, Option, Some}
use Rattle.mls_leaf.specs.Limits.{input_limit}
use Rattle.mls_cli_text.specs.HexFile.{bytes_in}
use Rattle.mls_cli_text.specs.HexFileLimit.{hex_file_limit}
use Rattle.mls_cli_text.specs.declared.form.Form.{Form}
use Rattle.mls_cli_text.specs.declared.form.Form.TheVariants.{Hex, Raw}

-- how many bytes a file may have
abbrev pub file_limit : Form → ℕ
file_limit Hex = hex_file_limit
file_limit Raw = input_limit

-- the bytes that a file has, where it has some
abbrev pub bytes_of_file : Form → List ℕ → Option (List ℕ)
bytes_of_file Hex text = bytes_in text
bytes_of_file Raw text = Some text
