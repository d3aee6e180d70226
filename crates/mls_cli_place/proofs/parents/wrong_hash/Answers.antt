use Rattle.std.proofs.Common.{◌≡◌, subst, sym, refl}
use Rattle.std.specs.Prelude.{IfOk}
use Rattle.mls_tree.proofs.KeptHashes.{cold_by}
use Rattle.mls_tree_model.proofs.FirstLaws.{all_lists, hash_by_lists}
use Rattle.mls_tree_model.specs.Arrays.{term_of}
use Rattle.mls_cli_place.proofs.parents.wrong_hash.Goals as goal

pub tree_hash-tree_hash-requires-clause-keeps : goal.tree_hash-tree_hash-requires-clause-keeps
tree_hash-tree_hash-requires-clause-keeps c = cold_by c.args.height _ c.args.cells.nodes c.args.cells.hashes c.requires.cold refl

pub of-requires-clause-shape : goal.of-requires-clause-shape
of-requires-clause-shape c = rw c.tree_hash-tree_hash.ensures.all c.requires.shape

pub of-requires-clause-hashed : goal.of-requires-clause-hashed
of-requires-clause-hashed c = rw c.tree_hash-tree_hash.ensures.all refl

pub first_wrong_hash-requires : goal.first_wrong_hash-requires
first_wrong_hash-requires c = rw (c.of.ensures, c.tree_hash-tree_hash.ensures.all) (all_lists (term_of c.args.height c.args.cells.nodes) c.requires.lists)

pub returns : goal.returns
returns c =
    subst (λ o. IfOk c.first_wrong_hash.result (λ found. found ≡ o)) (sym (hash_by_lists (term_of c.args.height c.args.cells.nodes) c.requires.lists))
    (rw (c.of.ensures, c.tree_hash-tree_hash.ensures.all) at c.first_wrong_hash.ensures)
