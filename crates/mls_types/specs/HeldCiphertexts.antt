-- Ciphertexts that were read, or that were made.
use Rattle.std.specs.Prelude.{List}
use Rattle.mls_types.specs.declared.update_path.HpkeCiphertext.{HpkeCiphertext}
use Rattle.mls_types.specs.declared.ciphertexts.Held.{Held}
use Rattle.mls_types.specs.declared.ciphertexts.Held.TheVariants.{Read, Made}

-- the list of them
abbrev pub list_held : Held → List HpkeCiphertext
list_held (Read spelled) = spelled
list_held (Made items) = items
