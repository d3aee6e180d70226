use Rattle.std.proofs.Common.{refl}
use Rattle.mls_leaf.specs.Parent.{rises_from}
use Rattle.mls_test_tree.proofs.hashes.parents.Goals as goal

pub branch_hash_without-requires : goal.branch_hash_without-requires
unfolding rises_from
branch_hash_without-requires g c = refl
