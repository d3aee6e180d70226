use Rattle.std.proofs.Common.{◌<◌, length, sym, ◌∙◌, ap, subst}
use Rattle.std.specs.List.{All}
use Rattle.mls_tree_cells.specs.Cells.{CellList, Puts}
use Rattle.mls_tree_cells.specs.Parts.{EndsIn, IsOpen}
use Rattle.mls_tree_cells.specs.Rows.{first_cells}
use Rattle.mls_tree_cells.specs.declared.changes.Change.{Change}
use Rattle.mls_tree_cells.proofs.CellLaws.{all_within, puts_ends, put_is}
use Rattle.mls_tree_cells.proofs.OpenLaws.{on_err}
use Rattle.mls_tree_cells.proofs.cells.Cells.put.Goals as goal

pub own_chunks-requires : goal.own_chunks-requires
own_chunks-requires c =
    subst (All (λ (d : Change). d.place < length c.self.inside.parts.cells.nodes)) (sym c.deref.ensures.value) (all_within c.self.inside.len c.self.inside.parts.cells c.args.self.now c.self.view_is c.self.invariant c.args.changes.items c.requires)

pub put_all-requires-clause-within : goal.put_all-requires-clause-within
put_all-requires-clause-within c =
    subst (λ (r : CellList). All (λ (d : Change). d.place < length r.nodes) c.args.changes.items) (sym c.own_chunks.ensures.cells) (all_within c.self.inside.len c.self.inside.parts.cells c.args.self.now c.self.view_is c.self.invariant c.args.changes.items c.requires)

pub put_all-requires-clause-own : goal.put_all-requires-clause-own
put_all-requires-clause-own c =
    subst (All (λ (d : Change). IsOpen c.own_chunks.new.self.shares d.place)) c.deref.ensures.value c.in_ok-own_chunks.ensures.own

pub invariant_of-self : goal.invariant_of-self
invariant_of-self c = subst (EndsIn c.self.inside.len) (sym c.own_chunks.ensures.cells) c.self.invariant

pub invariant_of-self-2 : goal.invariant_of-self-2
invariant_of-self-2 c =
    puts_ends c.self.inside.len c.args.changes.items c.own_chunks.new.self.cells c.put_all.new.self.cells c.put_all.ensures
    (subst (EndsIn c.self.inside.len) (sym c.own_chunks.ensures.cells) c.self.invariant)

pub returns-in_err-own_chunks-clause-err : goal.returns-in_err-own_chunks-clause-err
returns-in_err-own_chunks-clause-err c =
    on_err c.from_residual.result (ap (first_cells c.self.inside.len) c.own_chunks.ensures.cells ∙ c.self.view_is)

pub returns-clause-ok : goal.returns-clause-ok
returns-clause-ok c =
    put_is c.self.inside.len c.self.inside.parts.cells c.args.self.now c.self.view_is c.self.invariant c.args.changes.items c.put_all.new.self.cells
    (subst (λ (r : CellList). Puts c.args.changes.items r c.put_all.new.self.cells) c.own_chunks.ensures.cells c.put_all.ensures)
