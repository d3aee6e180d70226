-- The numbers of these refusals.
use Rattle.std.specs.Prelude.{ℕ}
use Rattle.mls_tree.specs.Faults.{number_of as number_of_tree}
use Rattle.mls_checks.specs.Faults.{number_of as number_of_check}
use Rattle.mls_treekem.specs.Faults.{number_of as number_of_keys}
use Rattle.mls_update_path.specs.declared.error.PathError.{PathError}
use Rattle.mls_update_path.specs.declared.error.PathError.TheVariants.{Tree, Check, Keys}

-- the number that the program answers
abbrev pub number_of : PathError → ℕ
number_of (Tree e) = number_of_tree e
number_of (Check e) = number_of_check e
number_of (Keys e) = number_of_keys e
