use Rattle.std.proofs.Common.{None, ◌∙◌}
use Rattle.mls_tree_cells.proofs.CellLaws.{cell_within, hash_is}
use Rattle.mls_tree_cells.proofs.cells.Cells.hash.Goals as goal

pub hash-requires : goal.hash-requires
hash-requires c = cell_within c.self.inside.len c.self.inside.parts.cells c.args.self.now c.self.view_is c.self.invariant c.args.x c.requires

pub returns : goal.returns
returns c = c.hash.ensures ∙ hash_is c.self.inside.len c.self.inside.parts.cells c.args.self.now c.self.view_is c.self.invariant c.args.x c.requires None
