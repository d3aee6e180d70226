use Rattle.std.proofs.Common.{arith, refl, ◌∙◌}
use Rattle.mls_tree.specs.Way.{way_numbers}
use Rattle.mls_tree.proofs.CellEdits.{beside_put}
use Rattle.mls_tree.proofs.Indexing.{same_indexes, left_by, entered_by, way_once, less_room}
use Rattle.mls_tree.proofs.edits.put_with_indexes.Goals as goal

pub overflow_mul-places : goal.overflow_mul-places
overflow_mul-places c = let few = c.as_slice-places.ensures.few in omega arith

pub leave_all-requires-clause-distinct : goal.leave_all-requires-clause-distinct
leave_all-requires-clause-distinct c = way_once c.args.height c.args.i _ (c.as_slice-places.ensures.numbers ∙ c.over-way.ensures)

pub leave_all-requires-clause-room : goal.leave_all-requires-clause-room
leave_all-requires-clause-room c = less_room _ _ _ (omega arith) c.in_ok-reserve.ensures.room

pub enter_all-requires-clause-distinct : goal.enter_all-requires-clause-distinct
enter_all-requires-clause-distinct c = way_once c.args.height c.args.i _ (c.as_slice-places.ensures.numbers ∙ c.over-way.ensures)

pub enter_all-requires-clause-room : goal.enter_all-requires-clause-room
enter_all-requires-clause-room c = c.leave_all.ensures.room _ (less_room _ _ _ (omega arith) c.in_ok-reserve.ensures.room)

pub returns-in_err-reserve-clause-indexes : goal.returns-in_err-reserve-clause-indexes
returns-in_err-reserve-clause-indexes c = λ is. same_indexes c.args.cells.now.nodes _ _ c.in_err-reserve.ensures.same is

pub returns-clause-own : goal.returns-clause-own
returns-clause-own c = λ own. c.enter_all.ensures.own (c.leave_all.ensures.own (c.in_ok-reserve.ensures.own own))

pub returns-clause-indexes : goal.returns-clause-indexes
returns-clause-indexes c = λ is.
    let h = c.args.height in
    let xs = c.args.cells.now.nodes in
    let ns = way_numbers h c.args.i in
    let way = c.as_slice-places.ensures.numbers ∙ c.over-way.ensures in
    let reserved = same_indexes xs _ _ c.in_ok-reserve.ensures.same is in
    let left = left_by ns _ xs _ _ _ way refl c.leave_all.ensures.left reserved in
    let beside = beside_put h c.args.i c.args.cells.now c.put-done.new.cells _ c.requires.stands c.put-done.result c.args.leaf c.put-done.ensures.ok c.put-done.ensures.err left in
    entered_by ns _ c.put-done.new.cells.nodes _ _ _ way refl c.enter_all.ensures.entered beside
