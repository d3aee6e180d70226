-- How large an input may be; the standard sets no limit.
use Rattle.std.specs.Prelude.{ℕ}

-- how many bytes an input may have, which is this project's choice; INPUT_LIMIT in the code
abbrev pub input_limit : ℕ
input_limit = 67108864
