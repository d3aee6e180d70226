use Rattle.std.proofs.Common.{sym, ◌∙◌, ap, subst}
use Rattle.mls_tree_cells.specs.Rows.{AddsBlanks, first_cells}
use Rattle.mls_tree_cells.specs.Parts.{EndsIn}
use Rattle.mls_tree_cells.proofs.CellLaws.{back_is, grow_ends, grow_is, mid_within}
use Rattle.mls_tree_cells.proofs.OpenLaws.{on_err}
use Rattle.mls_tree_cells.proofs.cells.Cells.grow.Goals as goal

pub cut-requires : goal.cut-requires
cut-requires c = c.self.invariant

pub invariant_of-self : goal.invariant_of-self
invariant_of-self c = subst (EndsIn c.self.inside.len) (sym c.in_err-cut.ensures.err) c.self.invariant

pub returns-in_err-cut-clause-err : goal.returns-in_err-cut-clause-err
returns-in_err-cut-clause-err c =
    on_err c.from_residual.result (ap (first_cells c.self.inside.len) c.in_err-cut.ensures.err ∙ c.self.view_is)

pub drop_behind-requires : goal.drop_behind-requires
drop_behind-requires c = mid_within c.self.inside.len c.self.inside.parts.cells c.args.self.now c.self.view_is c.self.invariant c.cut.new.self.cells c.push_blanks.new.self.cells c.in_ok-cut.ensures.ok c.in-Err.ensures.err

pub invariant_of-self-in-Err : goal.invariant_of-self-in-Err
invariant_of-self-in-Err c = c.drop_behind.ensures.end

pub returns-in-Err-clause-err : goal.returns-in-Err-clause-err
returns-in-Err-clause-err c = back_is c.self.inside.len c.self.inside.parts.cells c.args.self.now c.self.view_is c.self.invariant c.cut.new.self.cells c.push_blanks.new.self.cells c.in_ok-cut.ensures.ok c.in-Err.ensures.err c.drop_behind.new.self.cells c.drop_behind.ensures.cells

pub invariant_of-self-in-Ok : goal.invariant_of-self-in-Ok
invariant_of-self-in-Ok c =
    let sum = c.in-Some.ensures in
    subst (λ n. EndsIn n c.push_blanks.new.self.cells) (sym sum.1) (grow_ends c.self.inside.len c.self.inside.parts.cells c.args.self.now c.self.view_is c.self.invariant c.args.count c.cut.new.self.cells c.push_blanks.new.self.cells c.in_ok-cut.ensures.ok c.in-Ok.ensures.ok)

pub returns-in-Ok-clause-ok : goal.returns-in-Ok-clause-ok
returns-in-Ok-clause-ok c =
    let sum = c.in-Some.ensures in
    subst (λ n. AddsBlanks c.args.count c.args.self.now (first_cells n c.push_blanks.new.self.cells)) (sym sum.1) (grow_is c.self.inside.len c.self.inside.parts.cells c.args.self.now c.self.view_is c.self.invariant c.args.count c.cut.new.self.cells c.push_blanks.new.self.cells c.in_ok-cut.ensures.ok c.in-Ok.ensures.ok)
