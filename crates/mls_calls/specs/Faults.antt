-- The numbers and names of calls that the library for C refuses before they begin.
use Rattle.std.specs.Prelude.{ℕ, List, codes}
use Rattle.mls_calls.specs.declared.error.MisuseError.{MisuseError}
use Rattle.mls_calls.specs.declared.error.MisuseError.TheVariants.{NullHandle, OtherHandle, NullBytes, SeedLength, NotKeyPackage, BufferLength, NotLabel}

-- the number that the call answers
abbrev pub number_of : MisuseError → ℕ
number_of NullHandle = 130
number_of OtherHandle = 131
number_of NullBytes = 132
number_of SeedLength = 133
number_of NotKeyPackage = 134
number_of BufferLength = 135
number_of NotLabel = 136

-- the name
abbrev pub name_of : MisuseError → List ℕ
name_of NullHandle = codes "NullHandle"
name_of OtherHandle = codes "OtherHandle"
name_of NullBytes = codes "NullBytes"
name_of SeedLength = codes "SeedLength"
name_of NotKeyPackage = codes "NotKeyPackage"
name_of BufferLength = codes "BufferLength"
name_of NotLabel = codes "NotLabel"
