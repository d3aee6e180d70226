use Rattle.mls_tree_model.specs.Good.{has_good_lists}
use Rattle.mls_tree_array.proofs.lists.has_good_lists.Goals as goal

pub returns-clause-right : goal.returns-clause-right
unfolding has_good_lists
returns-clause-right c = rw c.requires at c.are_lists_right.ensures.right

pub returns-clause-rising : goal.returns-clause-rising
returns-clause-rising c = λ all. rw c.requires at (c.are_lists_right.ensures.rising all)
