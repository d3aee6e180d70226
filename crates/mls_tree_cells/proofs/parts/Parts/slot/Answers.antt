use Rattle.std.proofs.Common.{◌%◌, ◌<◌, length, get_or, None, sym, ◌∙◌, ap, subst, arith}
use Rattle.mls_tree_cells.specs.Cells.{CellList}
use Rattle.mls_tree_cells.proofs.OpenLaws.{chunk_in, top_in, row_long, node_of_row, node_of_top}
use Rattle.mls_tree_cells.proofs.parts.Parts.slot.Goals as goal

pub index-requires : goal.index-requires
index-requires c =
    let ok = c.self.inside.chunks.ok.0 in
    let lt = chunk_in c.self.inside.chunks.items c.self.inside.tops c.args.self.now c.self.view_is c.self.invariant c.args.x c.requires c.if-offset-lt-TOP.true in
    omega arith

pub slot-requires : goal.slot-requires
slot-requires c =
    subst (λ (r : CellList). c.args.x % 256 < length r.nodes) (sym c.row.ensures)
    (row_long c.self.inside.chunks.items c.self.inside.tops c.args.self.now c.self.view_is c.self.invariant c.args.x c.requires c.index.result.now c.if-offset-lt-TOP.true c.index.ensures)

pub slot-requires-else-offset-lt-TOP : goal.slot-requires-else-offset-lt-TOP
slot-requires-else-offset-lt-TOP c = top_in c.self.inside.chunks.items c.self.inside.tops c.args.self.now c.self.view_is c.self.invariant c.args.x c.requires c.if-offset-lt-TOP.false

pub returns-then-offset-lt-TOP : goal.returns-then-offset-lt-TOP
returns-then-offset-lt-TOP c =
    c.slot.ensures
    ∙ ap (λ (r : CellList). get_or r.nodes (c.args.x % 256) None) c.row.ensures
    ∙ node_of_row c.self.inside.chunks.items c.self.inside.tops c.args.self.now c.self.view_is c.self.invariant c.args.x c.requires c.index.result.now c.if-offset-lt-TOP.true c.index.ensures

pub returns-else-offset-lt-TOP : goal.returns-else-offset-lt-TOP
returns-else-offset-lt-TOP c =
    c.slot-else-offset-lt-TOP.ensures ∙ node_of_top c.self.inside.chunks.items c.self.inside.tops c.args.self.now c.self.view_is c.self.invariant c.args.x c.requires c.if-offset-lt-TOP.false
