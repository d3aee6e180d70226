-- The numbers of these refusals.
use Rattle.std.specs.Prelude.{ℕ}
use Rattle.mls_leaf.specs.Faults.{number_of as number_of_leaf}
use Rattle.mls_public_group.specs.Faults.{number_of as number_of_group}
use Rattle.mls_update_path.specs.Faults.{number_of as number_of_path}
use Rattle.mls_welcome.specs.Faults.{number_of as number_of_welcome}
use Rattle.mls_make.specs.declared.error.MakeError.{MakeError}
use Rattle.mls_make.specs.declared.error.MakeError.TheVariants.{Leaf, Group, Path, Welcome}

-- the number that the program answers
abbrev pub number_of : MakeError → ℕ
number_of (Leaf e) = number_of_leaf e
number_of (Group e) = number_of_group e
number_of (Path e) = number_of_path e
number_of (Welcome e) = number_of_welcome e
