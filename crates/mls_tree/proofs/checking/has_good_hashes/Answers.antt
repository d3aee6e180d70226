use Rattle.std.proofs.Common.{ap}
use Rattle.mls_tree.proofs.checking.has_good_hashes.Goals as goal

pub has_good_hashes-requires-clause-whole : goal.has_good_hashes-requires-clause-whole
has_good_hashes-requires-clause-whole c = ap (λ t. t.first) c.of-tree.ensures

pub has_good_hashes-requires-clause-lists : goal.has_good_hashes-requires-clause-lists
has_good_hashes-requires-clause-lists c = rw c.of-tree.ensures c.requires.lists

pub returns : goal.returns
returns c = rw c.of-tree.ensures at c.has_good_hashes.ensures
