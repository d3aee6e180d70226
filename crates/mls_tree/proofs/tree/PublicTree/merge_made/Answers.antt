use Rattle.std.proofs.Common.{◌≡◌, true, is_some, Ok, [], length, reverse, refl, sym, ◌∙◌, ap, subst}
use Rattle.mls_wire.specs.Checks.{passed}
use Rattle.mls_tree_model.specs.Term.{leaf_of}
use Rattle.mls_tree_model.specs.Merge.{merge_path}
use Rattle.mls_tree_cells.specs.Cells.{CellList}
use Rattle.mls_tree_array.specs.Merging.{path_parents}
use Rattle.mls_tree_array.specs.PathParents.{HasParents}
use Rattle.mls_tree.specs.ColdNodes.{Chills}
use Rattle.mls_tree.specs.ColdNodes.{Warms}
use Rattle.mls_tree.specs.PathMerging.{HasPathHash}
use Rattle.mls_tree.specs.Paths.{path_checks}
use Rattle.mls_tree.specs.Tree.{term}
use Rattle.mls_tree.proofs.EditsKeepGood.{merge_checked, merge_new, merge_member}
use Rattle.mls_tree.proofs.KeptHashes.{kept_long, kept-merge}
use Rattle.mls_tree.proofs.Bounding.{merged}
use Rattle.mls_tree.proofs.Pathing.{merge_refused, merge_done}
use Rattle.mls_tree.proofs.Chilling.{tree_of, warmed, edited_in, on_err}
use Rattle.mls_tree.proofs.tree.PublicTree.merge_made.Goals as goal

pub returns-in-Err-clause-answer : goal.returns-in-Err-clause-answer
returns-in-Err-clause-answer c =
    (c.tree_hash-tree_hash.ensures.same, λ other. rw c.tree_hash-tree_hash.ensures.same at (merge_refused _ _ _ _ _ (c.in-Err.ensures.checks other)))

pub merge_with_indexes-requires-clause-long : goal.merge_with_indexes-requires-clause-long
merge_with_indexes-requires-clause-long c = kept_long c.self.inside.height c.self.inside.cells.nodes _ c.self.invariant.2

pub returns-clause-answer : goal.returns-clause-answer
returns-clause-answer c =
    let made = c.in-Ok.ensures.parents ∙ ap (λ t. path_parents 0 (term t) c.args.i (reverse c.args.keys.now) []) (sym c.self.view_is) in
    rw c.tree_hash-tree_hash.ensures.same at (merge_done _ _ _ _ c.in-Ok.ensures.checks
    ∙ ap Ok (ap (λ t. merge_path (term t) c.args.i c.args.leaf c.args.keys.now) (sym c.self.view_is) ∙ sym (c.in_ok-merge_with_indexes.ensures.merged c.args.keys.now made).nodes.term))

pub returns-clause-good : goal.returns-clause-good
returns-clause-good c = merge_new _ _ _ _ _ (returns-clause-answer c)

pub returns-clause-checked : goal.returns-clause-checked
returns-clause-checked c = merge_checked _ _ _ _ _ (returns-clause-answer c)

pub returns-in-Err-clause-warms : goal.returns-in-Err-clause-warms
returns-in-Err-clause-warms c = warmed c.args.self.now c.tree_hash-tree_hash.new.self c.tree_hash-tree_hash.ensures.all c.tree_hash-tree_hash.ensures.counted

pub returns-clause-cold : goal.returns-clause-cold
returns-clause-cold c = (
  c.tree_hash-tree_hash.new.self,
  warmed c.args.self.now c.tree_hash-tree_hash.new.self c.tree_hash-tree_hash.ensures.all c.tree_hash-tree_hash.ensures.counted,
  c.tree_hash-tree_hash.ensures.same,
  (let made = c.in-Ok.ensures.parents ∙ ap (λ t. path_parents 0 (term t) c.args.i (reverse c.args.keys.now) []) (sym c.self.view_is) in
      subst (λ t. Chills t c.args.i c.tree_hash-tree_hash.new.self (tree_of c.self.inside.height c.merge_with_indexes.new.cells.nodes c.merge_with_indexes.new.cells.hashes c.self.inside.done)) c.tree_hash-tree_hash.ensures.same
      (edited_in c.self.inside.height c.args.i c.self.inside.cells.nodes _ _ _ c.self.view_is c.self.invariant.2 (subst (λ t. is_some (leaf_of t c.args.i) ≡ true) (sym c.tree_hash-tree_hash.ensures.same) (merge_member _ _ _ _ _ (returns-clause-answer c))) c.merge_with_indexes.new.cells.nodes c.merge_with_indexes.new.cells.hashes c.self.inside.done (c.in_ok-merge_with_indexes.ensures.merged c.args.keys.now made).hashes refl)),
)

pub returns-in_err-merge_with_indexes-clause-warms : goal.returns-in_err-merge_with_indexes-clause-warms
returns-in_err-merge_with_indexes-clause-warms c =
    let before = subst (Warms c.args.self.now) (sym c.self.view_is) (warmed c.args.self.now c.tree_hash-tree_hash.new.self c.tree_hash-tree_hash.ensures.all c.tree_hash-tree_hash.ensures.counted) in
    on_err _ _ (subst (λ (cs : CellList). Warms c.args.self.now (tree_of c.self.inside.height cs.nodes cs.hashes c.self.inside.done)) (sym c.in_err-merge_with_indexes.ensures.unchanged) before)

pub invariant_of-self-2 : goal.invariant_of-self-2
invariant_of-self-2 c =
    let made = c.in-Ok.ensures.parents ∙ ap (λ t. path_parents 0 (term t) c.args.i (reverse c.args.keys.now) []) (sym c.self.view_is) in
    let merged_path = c.in_ok-merge_with_indexes.ensures.merged c.args.keys.now made in
    let stands = merged_path.nodes in
    let indexed = c.merge_with_indexes.ensures.indexed c.args.keys.now made c.self.invariant.4 in
    (stands.stands, c.self.invariant.1, kept-merge _ _ _ c.self.invariant.2 _ _ _ _ _ _ merged_path.hashes stands, merged _ _ _ _ _ (ap term c.self.view_is) c.self.invariant.3 _ _ _ _ _ stands (merge_member _ _ _ _ _ (merge_done _ _ _ _ c.in-Ok.ensures.checks)), indexed)

pub require_leaf-requires-clause-checks : goal.require_leaf-requires-clause-checks
require_leaf-requires-clause-checks c = subst (λ t. path_checks t c.args.i (length c.args.keys.now) ≡ Ok passed) (sym c.tree_hash-tree_hash.ensures.same) c.requires.checks

pub require_leaf-requires-clause-parents : goal.require_leaf-requires-clause-parents
require_leaf-requires-clause-parents c = subst (λ t. HasParents 0 t c.args.i c.args.keys.now c.args.path) (sym c.tree_hash-tree_hash.ensures.same) c.requires.parents

pub require_leaf-requires-clause-hash : goal.require_leaf-requires-clause-hash
require_leaf-requires-clause-hash c = subst (λ t. HasPathHash t c.args.i c.args.keys.now c.args.path) (sym c.tree_hash-tree_hash.ensures.same) c.requires.hash
