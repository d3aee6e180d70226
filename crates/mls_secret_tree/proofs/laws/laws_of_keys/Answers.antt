use Rattle.mls_secret_tree.proofs.TreeLaws.{first_is_fresh, keys_are_derived, each_is_answered, whatever_order}
use Rattle.mls_secret_tree.proofs.laws.laws_of_keys.Goals as goal

pub returns : goal.returns
returns c = record { first = first_is_fresh; derived = keys_are_derived; answered = each_is_answered; whatever_order = whatever_order }
