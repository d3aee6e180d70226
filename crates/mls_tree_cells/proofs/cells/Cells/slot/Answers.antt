use Rattle.std.proofs.Common.{◌∙◌}
use Rattle.mls_tree_cells.proofs.CellLaws.{cell_within, node_is}
use Rattle.mls_tree_cells.proofs.cells.Cells.slot.Goals as goal

pub slot-requires : goal.slot-requires
slot-requires c = cell_within c.self.inside.len c.self.inside.parts.cells c.args.self.now c.self.view_is c.self.invariant c.args.x c.requires

pub returns : goal.returns
returns c = c.slot.ensures ∙ node_is c.self.inside.len c.self.inside.parts.cells c.args.self.now c.self.view_is c.self.invariant c.args.x c.requires
