use Rattle.std.proofs.Common.{sym}
use Rattle.mls_tree_cells.proofs.CellLaws.{seen_nodes, seen_hashes}
use Rattle.mls_tree_cells.proofs.cells.Cells.len.Goals as goal

pub returns-clause-nodes : goal.returns-clause-nodes
returns-clause-nodes c = sym (seen_nodes c.self.inside.len c.self.inside.parts.cells c.args.self.now c.self.view_is c.self.invariant)

pub returns-clause-hashes : goal.returns-clause-hashes
returns-clause-hashes c = sym (seen_hashes c.self.inside.len c.self.inside.parts.cells c.args.self.now c.self.view_is c.self.invariant)
