use Rattle.std.proofs.Common.{[], refl, reverse, ◌∙◌, arith}
use Rattle.mls_tree.specs.Way.{way_numbers}
use Rattle.mls_tree.proofs.CellEdits.{merge_fits, path_merged, beside_merge, on_ok}
use Rattle.mls_tree.proofs.Indexing.{same_indexes, left_beside, entered_beside, kept_client, way_once, less_room}
use Rattle.mls_tree.proofs.paths.merge_with_indexes.Goals as goal

pub overflow_mul-places : goal.overflow_mul-places
overflow_mul-places c = let few = c.as_slice-places.ensures.few in omega arith

pub leave_path-requires-clause-room : goal.leave_path-requires-clause-room
leave_path-requires-clause-room c = less_room _ _ _ (omega arith) c.in_ok-reserve.ensures.room

pub leave_path-requires-clause-distinct : goal.leave_path-requires-clause-distinct
leave_path-requires-clause-distinct c = way_once c.args.height c.args.i _ (c.as_slice-places.ensures.numbers ∙ c.over-way.ensures)

pub enter_path-requires-clause-distinct : goal.enter_path-requires-clause-distinct
enter_path-requires-clause-distinct c = way_once c.args.height c.args.i _ (c.as_slice-places.ensures.numbers ∙ c.over-way.ensures)

pub enter_path-requires-clause-room : goal.enter_path-requires-clause-room
enter_path-requires-clause-room c = c.leave_path.ensures.room _ (less_room _ _ _ (omega arith) c.in_ok-reserve.ensures.room)

pub put-done-requires : goal.put-done-requires
put-done-requires c = merge_fits c.args.height c.args.i c.args.cells.now _ c.requires.stands (rw c.of.ensures at c.in_ok-changes.ensures.within)

pub returns-clause-merged : goal.returns-clause-merged
returns-clause-merged c =
    on_ok c.put-done.result _ _ (λ puts keys made.
    path_merged c.args.height c.args.i c.args.cells.now _ c.requires.stands _ puts c.requires.long c.args.leaf keys (rw (c.of.ensures, c.in_ok-leaf.ensures) at c.in_ok-changes.ensures.made (reverse keys) [] made)) c.put-done.ensures.ok

pub returns-in_err-reserve-clause-indexed : goal.returns-in_err-reserve-clause-indexed
returns-in_err-reserve-clause-indexed c = λ keys made is. same_indexes c.args.cells.now.nodes _ _ c.in_err-reserve.ensures.same is

pub returns-clause-indexed : goal.returns-clause-indexed
returns-clause-indexed c = λ keys made is.
    let h = c.args.height in
    let i = c.args.i in
    let xs = c.args.cells.now.nodes in
    let kept = c.is_client-kept.result in
    let way = c.as_slice-places.ensures.numbers ∙ c.over-way.ensures in
    let merged = on_ok c.put-done.result _ _ (λ puts. path_merged h i c.args.cells.now _ c.requires.stands _ puts c.requires.long c.args.leaf keys (rw (c.of.ensures, c.in_ok-leaf.ensures) at c.in_ok-changes.ensures.made (reverse keys) [] made)) c.put-done.ensures.ok in
    let own = kept_client kept _ h i xs _ refl c.is_client-kept.ensures in
    let reserved = same_indexes xs _ _ c.in_ok-reserve.ensures.same is in
    let left = left_beside kept (way_numbers h i) _ xs _ _ _ way refl c.leave_path.ensures.left reserved in
    let beside = beside_merge h i c.args.cells.now c.put-done.new.self _ c.requires.stands c.put-done.result c.args.leaf keys kept own merged c.put-done.ensures.err left in
    entered_beside kept (way_numbers h i) _ c.put-done.new.self.nodes _ _ _ way refl c.enter_path.ensures beside
