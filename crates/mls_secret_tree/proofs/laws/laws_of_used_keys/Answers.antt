use Rattle.mls_secret_tree.proofs.TreeLaws.{used_is_gone, never_twice}
use Rattle.mls_secret_tree.proofs.laws.laws_of_used_keys.Goals as goal

pub returns : goal.returns
returns c = record { gone = used_is_gone; never_twice = never_twice }
