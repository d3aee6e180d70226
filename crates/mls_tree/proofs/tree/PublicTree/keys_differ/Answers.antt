use Rattle.std.proofs.Common.{◌≡◌, ◌∷◌, ◌++◌, length, IfOk, sym, ◌∙◌, ap, subst}
use Rattle.mls_tree_model.specs.Sets.{same_bytes, is_distinct}
use Rattle.mls_tree_array.specs.Standing.{Stands}
use Rattle.mls_tree_index.specs.Keys.{keys_of}
use Rattle.mls_tree_index.specs.BlankedCells.{cells_without}
use Rattle.mls_tree.specs.Tree.{term}
use Rattle.mls_tree.specs.Way.{way_numbers}
use Rattle.mls_tree.proofs.Steps.{path_steps}
use Rattle.mls_tree.proofs.MergedKeyLaws.{merged_distinct}
use Rattle.mls_tree.proofs.Indexing.{way_once}
use Rattle.mls_tree.proofs.tree.PublicTree.keys_differ.Goals as goal

pub accepts_beside-requires : goal.accepts_beside-requires
accepts_beside-requires c = way_once c.self.inside.height c.args.i _ (c.as_slice-places.ensures.numbers ∙ c.over-way.ensures)

pub returns : goal.returns
returns c =
    let x = c.args.leaf.now in
    let keys = c.args.keys.now in
    let t = c.args.self.now in
    let kind = c.self.invariant.4.encryption in
    let cells = ap (λ t. t.nodes) c.self.view_is in
    let way = c.as_slice-places.ensures.numbers ∙ c.over-way.ensures ∙ ap (λ t. way_numbers t.height c.args.i) c.self.view_is in
    let stands = subst (λ t. Stands t.height t.nodes) c.self.view_is c.self.invariant.0 in
    let index = c.self.invariant.4.keys in
    subst (λ v. IfOk c.accepts_beside.result (λ b. b ≡ v)) (
    ap (λ xs. is_distinct same_bytes (x.encryption_key ∷ (keys ++ keys_of c.self.inside.indexes.keys.kind (cells_without 0 c.as_slice-places.result.now xs)))) cells
    ∙ ap (λ ns. is_distinct same_bytes (x.encryption_key ∷ (keys ++ keys_of c.self.inside.indexes.keys.kind (cells_without 0 ns t.nodes)))) way
    ∙ ap (λ k. is_distinct same_bytes (x.encryption_key ∷ (keys ++ keys_of k (cells_without 0 (way_numbers t.height c.args.i) t.nodes)))) kind
    ∙ sym (merged_distinct t.height c.args.i t.nodes stands x keys (sym (path_steps (term t) c.args.i (length keys) c.requires).count))) (c.accepts_beside.ensures.answer index)
