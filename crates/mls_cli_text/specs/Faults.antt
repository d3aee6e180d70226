-- The numbers of what a hex file is refused for.
use Rattle.std.specs.Prelude.{ℕ}
use Rattle.mls_cli_text.specs.declared.hex_file.FileError.{FileError}
use Rattle.mls_cli_text.specs.declared.hex_file.FileError.TheVariants.{OutOfMemory, NotHex}

-- the number that is printed
abbrev pub number_of : FileError → ℕ
number_of OutOfMemory = 1
number_of NotHex = 8
