use Rattle.std.proofs.Common.{refl}
use Rattle.mls_tree.proofs.Pathing.{hash_test}
use Rattle.mls_tree.proofs.paths.has_parent_hash.Goals as goal

pub returns-in-Commit : goal.returns-in-Commit
returns-in-Commit c = hash_test _ _ _ _ _ _ c.eq.ensures c.as_slice.ensures refl c.in-Commit.is
