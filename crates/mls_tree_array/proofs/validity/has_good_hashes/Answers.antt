use Rattle.mls_tree_model.specs.Good.{has_good_lists, has_good_hashes}
use Rattle.mls_tree_array.proofs.validity.has_good_hashes.Goals as goal

pub are_parents_valid-requires : goal.are_parents_valid-requires
unfolding has_good_lists
are_parents_valid-requires c = rw c.requires.whole c.requires.lists

pub returns : goal.returns
unfolding has_good_hashes
returns c = rw c.requires.whole at c.are_parents_valid.ensures
