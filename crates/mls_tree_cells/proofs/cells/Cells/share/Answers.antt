use Rattle.std.proofs.Common.{sym, ◌∙◌, ap, subst}
use Rattle.mls_tree_cells.specs.Rows.{first_cells}
use Rattle.mls_tree_cells.specs.Parts.{EndsIn}
use Rattle.mls_tree_cells.proofs.cells.Cells.share.Goals as goal

pub invariant_of-self : goal.invariant_of-self
invariant_of-self c = subst (EndsIn c.self.inside.len) (sym c.share.ensures) c.self.invariant

pub returns : goal.returns
returns c = ap (first_cells c.self.inside.len) c.share.ensures ∙ c.self.view_is
