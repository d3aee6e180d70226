use Rattle.std.proofs.Common.{arith}
use Rattle.mls_tree_cells.proofs.CellLaws.{truncate_is, truncate_none}
use Rattle.mls_tree_cells.proofs.cells.Cells.truncate.Goals as goal

pub drop_behind-requires : goal.drop_behind-requires
drop_behind-requires c =
    let less = c.if-count-self.true in
    let within = c.self.invariant.nodes in
    omega arith

pub invariant_of-self : goal.invariant_of-self
invariant_of-self c = c.drop_behind.ensures.end

pub returns-then-count-self : goal.returns-then-count-self
returns-then-count-self c = truncate_is c.self.inside.len c.self.inside.parts.cells c.args.self.now c.self.view_is c.self.invariant c.args.count c.drop_behind.new.self.cells c.if-count-self.true c.drop_behind.ensures.cells

pub returns-else-count-self : goal.returns-else-count-self
returns-else-count-self c = truncate_none c.self.inside.len c.self.inside.parts.cells c.args.self.now c.self.view_is c.self.invariant c.args.count c.if-count-self.false
