-- The numbers and names of what is refused of a saved form.
use Rattle.std.specs.Prelude.{ℕ, List, codes}
use Rattle.mls_wire.specs.Names.{refusal_name}
use Rattle.mls_leaf.specs.Faults.{number_of as number_of_leaf}
use Rattle.mls_tree.specs.Faults.{number_of as number_of_tree}
use Rattle.mls_saved_state.specs.declared.error.LoadError.{LoadError}
use Rattle.mls_saved_state.specs.declared.error.LoadError.TheVariants.{Leaf, Tree, OtherSuite, BadSecret, NotAMember, BadTreeHash, OtherKey}

-- the number that the program answers
abbrev pub number_of : LoadError → ℕ
number_of (Leaf e) = number_of_leaf e
number_of (Tree e) = number_of_tree e
number_of OtherSuite = 100
number_of BadSecret = 101
number_of NotAMember = 102
number_of BadTreeHash = 103
number_of OtherKey = 104

-- the name, as it is printed
abbrev pub name_of : LoadError → List ℕ
name_of (Leaf e) = refusal_name (number_of_leaf e)
name_of (Tree e) = refusal_name (number_of_tree e)
name_of OtherSuite = codes "OtherSuite"
name_of BadSecret = codes "BadSecret"
name_of NotAMember = codes "NotAMember"
name_of BadTreeHash = codes "BadTreeHash"
name_of OtherKey = codes "OtherKey"
