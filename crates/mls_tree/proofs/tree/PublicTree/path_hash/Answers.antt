use Rattle.std.proofs.Common.{◌∙◌}
use Rattle.mls_tree.proofs.Pathing.{hash_is}
use Rattle.mls_tree.proofs.tree.PublicTree.path_hash.Goals as goal

pub returns : goal.returns
returns c = (rw c.hashed_subtree.ensures at c.path_hash.ensures) ∙ hash_is _ _ _
