use Rattle.std.proofs.Common.{Some, ◌∙◌, ap, arith}
use Rattle.mls_tree_cells.proofs.CellLaws.{seen_nodes, cell_within, node_is}
use Rattle.mls_tree_cells.proofs.cells.Cells.get.Goals as goal

pub slot-requires : goal.slot-requires
slot-requires c =
    let long = seen_nodes c.self.inside.len c.self.inside.parts.cells c.args.self.now c.self.view_is c.self.invariant in
    let less = c.if-x-self.true in
    cell_within c.self.inside.len c.self.inside.parts.cells c.args.self.now c.self.view_is c.self.invariant c.args.x (omega arith)

pub returns-then-x-self-clause-within : goal.returns-then-x-self-clause-within
returns-then-x-self-clause-within c = λ lt. ap Some (c.slot.ensures ∙ node_is c.self.inside.len c.self.inside.parts.cells c.args.self.now c.self.view_is c.self.invariant c.args.x lt)

pub returns-then-x-self-clause-past : goal.returns-then-x-self-clause-past
returns-then-x-self-clause-past c = λ le.
    let long = seen_nodes c.self.inside.len c.self.inside.parts.cells c.args.self.now c.self.view_is c.self.invariant in
    let less = c.if-x-self.true in
    absurd (omega arith)

pub returns-else-x-self-clause-within : goal.returns-else-x-self-clause-within
returns-else-x-self-clause-within c = λ lt.
    let long = seen_nodes c.self.inside.len c.self.inside.parts.cells c.args.self.now c.self.view_is c.self.invariant in
    let more = c.if-x-self.false in
    absurd (omega arith)
