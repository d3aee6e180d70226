use Rattle.mls_tree_cells.specs.Rows.{AddsBlanks}
use Rattle.mls_tree_cells.proofs.parts.Parts.push_blanks.Given as goal

abbrev pub invariant-loop : goal.invariant-loop
invariant-loop l = AddsBlanks l.counter l.fn.self.cells l.self.cells
