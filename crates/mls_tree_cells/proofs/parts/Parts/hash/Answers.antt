use Rattle.std.proofs.Common.{◌%◌, ◌<◌, length, get_or, None, sym, ◌∙◌, ap, subst, arith}
use Rattle.mls_tree_cells.specs.Cells.{CellList}
use Rattle.mls_tree_cells.proofs.OpenLaws.{chunk_in, top_in, row_long, hash_of_row, hash_of_top}
use Rattle.mls_tree_cells.proofs.parts.Parts.hash.Goals as goal

pub index-requires : goal.index-requires
index-requires c =
    let ok = c.self.inside.chunks.ok.0 in
    let lt = chunk_in c.self.inside.chunks.items c.self.inside.tops c.args.self.now c.self.view_is c.self.invariant c.args.x c.requires c.if-offset-lt-TOP.true in
    omega arith

pub hash-requires : goal.hash-requires
hash-requires c =
    subst (λ (r : CellList). c.args.x % 256 < length r.nodes) (sym c.row.ensures)
    (row_long c.self.inside.chunks.items c.self.inside.tops c.args.self.now c.self.view_is c.self.invariant c.args.x c.requires c.index.result.now c.if-offset-lt-TOP.true c.index.ensures)

pub hash-requires-else-offset-lt-TOP : goal.hash-requires-else-offset-lt-TOP
hash-requires-else-offset-lt-TOP c = top_in c.self.inside.chunks.items c.self.inside.tops c.args.self.now c.self.view_is c.self.invariant c.args.x c.requires c.if-offset-lt-TOP.false

pub returns-then-offset-lt-TOP : goal.returns-then-offset-lt-TOP
returns-then-offset-lt-TOP c =
    c.hash.ensures
    ∙ ap (λ (r : CellList). get_or r.hashes (c.args.x % 256) None) c.row.ensures
    ∙ hash_of_row c.self.inside.chunks.items c.self.inside.tops c.args.self.now c.self.view_is c.self.invariant c.args.x c.requires c.index.result.now c.if-offset-lt-TOP.true c.index.ensures None

pub returns-else-offset-lt-TOP : goal.returns-else-offset-lt-TOP
returns-else-offset-lt-TOP c =
    c.hash-else-offset-lt-TOP.ensures ∙ hash_of_top c.self.inside.chunks.items c.self.inside.tops c.args.self.now c.self.view_is c.self.invariant c.args.x c.requires None c.if-offset-lt-TOP.false
