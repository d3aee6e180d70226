-- The number of what the key functions refuse.
use Rattle.std.specs.Prelude.{ℕ}
use Rattle.mls_kdf.specs.declared.KdfError.{KdfError}
use Rattle.mls_kdf.specs.declared.KdfError.TheVariants.{OutputTooLong}

-- the number that the program answers
abbrev pub number_of : KdfError → ℕ
number_of OutputTooLong = 10
