use Rattle.std.proofs.Common.{sym, refl, ◌∙◌, ap}
use Rattle.mls_tree_model.proofs.FirstLaws.{all_lists}
use Rattle.mls_tree.proofs.KeptHashes.{cold_by}
use Rattle.mls_test_tree.proofs.arrays.first_wrong.Goals as goal

pub has_good_lists-requires : goal.has_good_lists-requires
has_good_lists-requires c = ap (λ t. t.first) c.of.ensures

pub tree_hash-tree_hash-requires-clause-keeps : goal.tree_hash-tree_hash-requires-clause-keeps
tree_hash-tree_hash-requires-clause-keeps c = cold_by c.args.height _ c.args.cells.now.nodes c.args.cells.now.hashes c.requires.cold refl

pub first_wrong_hash-requires : goal.first_wrong_hash-requires
first_wrong_hash-requires c =
    rw (c.of-2.ensures, c.tree_hash-tree_hash.ensures.all) (all_lists _ (rw c.of.ensures at (sym c.has_good_lists.ensures.right ∙ c.if-not-has_good_lists.false)))
