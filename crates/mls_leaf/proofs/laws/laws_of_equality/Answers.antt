use Rattle.std.proofs.lemmas.Slice.Eq.{bytes_eq-Decides}
use Rattle.mls_leaf.proofs.EqualLaws.{leaves_decide, lists_decide}
use Rattle.mls_leaf.proofs.laws.laws_of_equality.Goals as goal

pub returns-clause-byte_strings : goal.returns-clause-byte_strings
returns-clause-byte_strings c = bytes_eq-Decides

pub returns-clause-leaves : goal.returns-clause-leaves
returns-clause-leaves c = leaves_decide

pub returns-clause-extensions : goal.returns-clause-extensions
returns-clause-extensions c = lists_decide
