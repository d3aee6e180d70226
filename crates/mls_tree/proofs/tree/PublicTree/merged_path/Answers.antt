use Rattle.std.proofs.Common.{◌∙◌}
use Rattle.mls_tree.proofs.Pathing.{hash_is}
use Rattle.mls_tree.proofs.tree.PublicTree.merged_path.Goals as goal

pub returns-clause-parents : goal.returns-clause-parents
returns-clause-parents c = rw c.hashed_subtree.ensures at c.in_ok-path.ensures.parents

pub returns-clause-hash : goal.returns-clause-hash
returns-clause-hash c = (rw c.hashed_subtree.ensures at c.in_ok-path.ensures.hash) ∙ hash_is _ _ _
