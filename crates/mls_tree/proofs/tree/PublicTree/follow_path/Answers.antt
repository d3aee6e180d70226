use Rattle.std.proofs.Common.{◌≡◌, is_some, Ok, sym, ◌∙◌, ap, subst}
use Rattle.mls_tree_model.specs.Term.{leaf_of}
use Rattle.mls_tree_cells.specs.Cells.{CellList}
use Rattle.mls_tree_array.specs.KeptHashes.{hashes_of}
use Rattle.mls_tree_array.specs.Standing.{Stands}
use Rattle.mls_tree.specs.Bounds.{Bounds}
use Rattle.mls_tree.specs.IndexedKeys.{AreIndexes}
use Rattle.mls_tree.specs.Tree.{Tree, term}
use Rattle.mls_tree.proofs.EditsKeepGood.{merge_checked, merge_new, merge_member}
use Rattle.mls_tree_model.specs.Arrays.{term_of}
use Rattle.mls_tree_model.proofs.ArrayLaws.{perfect-term_of}
use Rattle.mls_tree_array.proofs.KeptLaws.{keeps_long}
use Rattle.mls_tree.proofs.KeptHashes.{kept_long, all_kept}
use Rattle.mls_tree.proofs.CellEdits.{cold_after}
use Rattle.mls_tree.proofs.Bounding.{merged}
use Rattle.mls_tree.proofs.Following.{path_of, merged_answer, for_inside, tree_after, path_long, hashes_after, IsWarmedEdit, followed_in}
use Rattle.mls_tree.specs.PreparedPath.{Prepared}
use Rattle.mls_tree.proofs.Chilling.{tree_of}
use Rattle.mls_tree.proofs.tree.PublicTree.follow_path.Goals as goal

pub merge_with_indexes-requires-clause-long : goal.merge_with_indexes-requires-clause-long
merge_with_indexes-requires-clause-long c = kept_long c.self.inside.height c.self.inside.cells.nodes _ c.self.invariant.2

pub put_hashes-requires-clause-shape : goal.put_hashes-requires-clause-shape
put_hashes-requires-clause-shape c =
    let own = for_inside _ _ _ _ c.self.view_is c.path.view_is c.requires.prepared in
    (c.in_ok-merge_with_indexes.ensures.merged (path_of c.path.inside.parents.items) own.parents).nodes.stands.size

pub put_hashes-requires-clause-cold : goal.put_hashes-requires-clause-cold
put_hashes-requires-clause-cold c =
    let own = for_inside _ _ _ _ c.self.view_is c.path.view_is c.requires.prepared in
    let h = c.self.inside.height in
    let edited = c.in_ok-merge_with_indexes.ensures.merged (path_of c.path.inside.parents.items) own.parents in
    cold_after h c.path.inside.index (term_of h c.self.inside.cells.nodes) (term_of h c.self.inside.cells.nodes) c.self.inside.cells c.merge_with_indexes.new.cells (perfect-term_of h c.self.inside.cells.nodes) edited.hashes (keeps_long 0 (term_of h c.self.inside.cells.nodes) _ c.self.invariant.2)

pub put_hashes-requires-clause-long : goal.put_hashes-requires-clause-long
put_hashes-requires-clause-long c =
    let own = for_inside _ _ _ _ c.self.view_is c.path.view_is c.requires.prepared in
    let keys = path_of c.path.inside.parents.items in
    path_long c.self.inside.height c.path.inside.index c.self.inside.cells.nodes _ keys _ (c.deref.ensures.value ∙ own.hashes)

pub returns-clause-warm : goal.returns-clause-warm
returns-clause-warm c =
    let own = for_inside _ _ _ _ c.self.view_is c.path.view_is c.requires.prepared in
    let keys = path_of c.path.inside.parents.items in
    let warm = subst (λ (t : Tree). t.hashes ≡ hashes_of 0 (term t)) (sym c.self.view_is) c.requires.warm in
    hashes_after c.self.inside.height c.path.inside.index c.self.inside.cells.nodes _ keys _ (c.deref.ensures.value ∙ own.hashes) c.self.inside.cells c.merge_with_indexes.new.cells c.put_hashes.new.cells warm (c.in_ok-merge_with_indexes.ensures.merged keys own.parents) c.put_hashes.ensures.kept

pub returns-clause-tree : goal.returns-clause-tree
returns-clause-tree c =
    let own = for_inside _ _ _ _ c.self.view_is c.path.view_is c.requires.prepared in
    ap (term_of c.self.inside.height) (ap (λ (x : CellList). x.nodes) c.put_hashes.ensures.kept)
    ∙ tree_after _ _ _ _ c.self.view_is c.path.view_is _ (c.in_ok-merge_with_indexes.ensures.merged (path_of c.path.inside.parents.items) own.parents).nodes.term

pub returns-clause-good : goal.returns-clause-good
returns-clause-good c = merge_new _ _ _ _ _ (merged_answer _ _ c.requires.prepared ∙ ap Ok (sym (returns-clause-tree c)))

pub returns-clause-checked : goal.returns-clause-checked
returns-clause-checked c = merge_checked _ _ _ _ _ (merged_answer _ _ c.requires.prepared ∙ ap Ok (sym (returns-clause-tree c)))

pub returns-clause-cold : goal.returns-clause-cold
returns-clause-cold c =
    let own = for_inside _ _ _ _ c.self.view_is c.path.view_is c.requires.prepared in
    let keys = path_of c.path.inside.parents.items in
    let warm = subst (λ (t : Tree). t.hashes ≡ hashes_of 0 (term t)) (sym c.self.view_is) c.requires.warm in
    let member = ap (λ t. is_some (leaf_of (term t) c.path.inside.index)) (sym c.self.view_is) ∙ merge_member _ _ _ _ _ own.answer in
    let long = path_long c.self.inside.height c.path.inside.index c.self.inside.cells.nodes _ keys _ (c.deref.ensures.value ∙ own.hashes) in
    let h = c.self.inside.height in
    subst (λ (p : Prepared). IsWarmedEdit p.index c.args.self.now (tree_of h c.put_hashes.new.cells.nodes c.put_hashes.new.cells.hashes c.put_hashes.new.done)) c.path.view_is (followed_in h c.path.inside.index c.self.inside.cells.nodes _ _ _ c.self.view_is c.self.invariant.2 member _ _ _ warm (returns-clause-warm c) (c.put_hashes.ensures.counted ∙ ap (Rattle.mls_tree_hash.specs.Counter.counted _) long))

pub invariant_of-self-2 : goal.invariant_of-self-2
invariant_of-self-2 c =
    let own = for_inside _ _ _ _ c.self.view_is c.path.view_is c.requires.prepared in
    let keys = path_of c.path.inside.parents.items in
    let stands = (c.in_ok-merge_with_indexes.ensures.merged keys own.parents).nodes in
    let indexed = c.merge_with_indexes.ensures.indexed keys own.parents c.self.invariant.4 in
    let member = ap (λ t. is_some (leaf_of (term t) c.path.inside.index)) (sym c.self.view_is) ∙ merge_member _ _ _ _ _ own.answer in
    let nodes = sym (ap (λ (x : CellList). x.nodes) c.put_hashes.ensures.kept) in
    let bounds = merged _ _ _ _ _ (ap term c.self.view_is) c.self.invariant.3 _ _ _ _ _ stands member in (
      subst (Stands c.self.inside.height) nodes stands.stands,
      c.self.invariant.1,
      all_kept _ _ _ (returns-clause-warm c),
      subst (λ xs. Bounds (term_of c.self.inside.height xs) c.self.inside.full_to c.self.inside.blank_from) nodes bounds,
      subst (λ xs. AreIndexes xs c.merge_with_indexes.new.indexes) nodes indexed,
    )
