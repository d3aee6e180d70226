use Rattle.std.proofs.Common.{◌-◌, ◌<◌, List, [], ◌∷◌, ◌++◌, length, sym, ◌∙◌, ap, subst, arith}
use Rattle.mls_tree_cells.specs.Cells.{CellList}
use Rattle.mls_tree_cells.specs.Chunks.{ChunkRow}
use Rattle.mls_tree_cells.specs.Rows.{AddsCell}
use Rattle.mls_tree_cells.specs.Parts.{AreParts, PartList, all_cells, rows_of}
use Rattle.mls_tree_cells.proofs.OpenLaws.{on_err, same_read, some_chunk, push_any_parts, push_ok, push_err, push_top, push_top_parts}
use Rattle.mls_tree_cells.proofs.parts.Parts.push.Goals as goal

pub overflow_sub-last : goal.overflow_sub-last
overflow_sub-last c =
    let ok = c.self.inside.chunks.ok.0 in
    let some = some_chunk c.self.inside.chunks.items c.self.inside.tops c.args.self.now c.self.view_is c.self.invariant in
    let long = c.len-last.ensures in
    omega arith

pub index-requires : goal.index-requires
index-requires c =
    let ok = c.self.inside.chunks.ok.0 in
    let some = some_chunk c.self.inside.chunks.items c.self.inside.tops c.args.self.now c.self.view_is c.self.invariant in
    let long = c.len-last.ensures in
    omega arith

pub index_mut-requires : goal.index_mut-requires
index_mut-requires c =
    let ok = c.self.inside.chunks.ok.0 in
    let some = some_chunk c.self.inside.chunks.items c.self.inside.tops c.args.self.now c.self.view_is c.self.invariant in
    let long = c.len-last.ensures in
    omega arith

pub invariant_of-self : goal.invariant_of-self
invariant_of-self c =
    let ok = c.self.inside.chunks.ok.0 in
    let some = some_chunk c.self.inside.chunks.items c.self.inside.tops c.args.self.now c.self.view_is c.self.invariant in
    let long = c.len-last.ensures in
    let size = c.len.ensures.nodes in
    let less = c.if-len-lt-TOP.true in
    let read = ap (λ (r : CellList). length r.nodes) c.row.ensures in
    let same = ap (λ (d : ChunkRow). length d.row.nodes) (same_read c.self.inside.chunks.items (c.len-last.result - 1) c.index_mut.result.now c.index.result.now (omega arith) c.index_mut.ensures.value c.index.ensures) in
    let few : length c.index_mut.result.now.row.nodes < 255 = omega arith in
    push_any_parts c.self.inside.chunks.items c.self.inside.tops c.args.self.now c.self.view_is c.self.invariant (c.len-last.result - 1) (omega arith) c.index_mut.result.now c.index_mut.ensures.value c.args.slot c.push.new.self few c.push.result c.push.ensures.ok c.push.ensures.err

pub returns-then-len-lt-TOP-clause-ok : goal.returns-then-len-lt-TOP-clause-ok
returns-then-len-lt-TOP-clause-ok c =
    let ok = c.self.inside.chunks.ok.0 in
    let some = some_chunk c.self.inside.chunks.items c.self.inside.tops c.args.self.now c.self.view_is c.self.invariant in
    let long = c.len-last.ensures in
    push_ok c.self.inside.chunks.items c.self.inside.tops c.args.self.now c.self.view_is c.self.invariant (c.len-last.result - 1) (omega arith) c.index_mut.result.now c.index_mut.ensures.value c.args.slot c.push.new.self c.push.result c.push.ensures.ok

pub returns-then-len-lt-TOP-clause-err : goal.returns-then-len-lt-TOP-clause-err
returns-then-len-lt-TOP-clause-err c =
    let ok = c.self.inside.chunks.ok.0 in
    let some = some_chunk c.self.inside.chunks.items c.self.inside.tops c.args.self.now c.self.view_is c.self.invariant in
    let long = c.len-last.ensures in
    push_err c.self.inside.chunks.items c.self.inside.tops c.args.self.now c.self.view_is c.self.invariant (c.len-last.result - 1) (omega arith) c.index_mut.result.now c.index_mut.ensures.value c.args.slot c.push.new.self c.push.result c.push.ensures.err

pub invariant_of-self-in_err-reserve : goal.invariant_of-self-in_err-reserve
invariant_of-self-in_err-reserve c =
    subst (λ (ds : List ChunkRow). AreParts (rows_of ds) c.self.inside.tops) (sym c.reserve.ensures.items) c.self.invariant

pub returns-in_err-reserve-clause-err : goal.returns-in_err-reserve-clause-err
returns-in_err-reserve-clause-err c =
    on_err c.from_residual-in_err-reserve.result
    (ap (λ (ds : List ChunkRow). all_cells (rows_of ds) c.self.inside.tops) c.reserve.ensures.items
    ∙ ap (λ (p : PartList). p.cells) c.self.view_is)

pub invariant_of-self-in_err-push : goal.invariant_of-self-in_err-push
invariant_of-self-in_err-push c =
    subst (λ (ds : List ChunkRow). AreParts (rows_of ds) c.push-2.new.self) (sym c.reserve.ensures.items)
    (subst (AreParts (rows_of c.self.inside.chunks.items)) (sym c.in_err-push.ensures.err) c.self.invariant)

pub returns-in_err-push-clause-err : goal.returns-in_err-push-clause-err
returns-in_err-push-clause-err c =
    on_err c.from_residual-in_err-push.result
    (ap (λ (ds : List ChunkRow). all_cells (rows_of ds) c.push-2.new.self) c.reserve.ensures.items
    ∙ ap (all_cells (rows_of c.self.inside.chunks.items)) c.in_err-push.ensures.err
    ∙ ap (λ (p : PartList). p.cells) c.self.view_is)

pub invariant_of-self-2 : goal.invariant_of-self-2
invariant_of-self-2 c =
    let ok = c.self.inside.chunks.ok.0 in
    let some = some_chunk c.self.inside.chunks.items c.self.inside.tops c.args.self.now c.self.view_is c.self.invariant in
    let long = c.len-last.ensures in
    let size = c.len.ensures.nodes in
    let many = c.if-len-lt-TOP.false in
    let read = ap (λ (r : CellList). length r.nodes) c.row.ensures in
    let made = ap (λ (d : ChunkRow). d.row) c.of.ensures in
    subst (λ (ds : List ChunkRow). AreParts (rows_of ds) c.push-2.new.self) (sym (c.push_reserved.ensures.items ∙ ap (λ (ds : List ChunkRow). ds ++ c.of.result ∷ []) c.reserve.ensures.items))
    (push_top_parts c.self.inside.chunks.items c.self.inside.tops c.args.self.now c.self.view_is c.self.invariant (c.len-last.result - 1) (omega arith) c.index.result.now c.index.ensures c.args.slot c.push-2.new.self c.of.result (made ∙ c.in_ok-row.ensures) (omega arith) c.in_ok-push.ensures.ok)

pub returns-clause-ok : goal.returns-clause-ok
returns-clause-ok c =
    let ok = c.self.inside.chunks.ok.0 in
    let some = some_chunk c.self.inside.chunks.items c.self.inside.tops c.args.self.now c.self.view_is c.self.invariant in
    let long = c.len-last.ensures in
    let made = ap (λ (d : ChunkRow). d.row) c.of.ensures in
    subst (λ (ds : List ChunkRow). AddsCell c.args.slot c.args.self.now.cells (all_cells (rows_of ds) c.push-2.new.self)) (sym (c.push_reserved.ensures.items ∙ ap (λ (ds : List ChunkRow). ds ++ c.of.result ∷ []) c.reserve.ensures.items))
    (push_top c.self.inside.chunks.items c.self.inside.tops c.args.self.now c.self.view_is c.self.invariant (c.len-last.result - 1) (omega arith) c.index.result.now c.index.ensures c.args.slot c.push-2.new.self c.of.result (made ∙ c.in_ok-row.ensures) c.in_ok-push.ensures.ok)
