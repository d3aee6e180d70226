use Rattle.std.proofs.Common.{ap}
use Rattle.mls_tree.proofs.checking.has_good_lists.Goals as goal

pub has_good_lists-requires : goal.has_good_lists-requires
has_good_lists-requires c = ap (λ t. t.first) c.of.ensures

pub returns-clause-right : goal.returns-clause-right
returns-clause-right c = rw c.of.ensures at c.has_good_lists.ensures.right

pub returns-clause-rising : goal.returns-clause-rising
returns-clause-rising c = λ all. rw c.of.ensures at (c.has_good_lists.ensures.rising all)
