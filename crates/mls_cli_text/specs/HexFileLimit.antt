-- How long a hex file may be.
use Rattle.std.specs.Prelude.{ℕ, ◌+◌, ◌*◌}
use Rattle.mls_leaf.specs.Limits.{input_limit}

-- how many bytes its text may have, two digits for each byte of an input and room for blanks; HEX_FILE_LIMIT in the code
abbrev pub hex_file_limit : ℕ
hex_file_limit = 2 * input_limit + 1024
