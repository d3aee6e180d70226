use Rattle.std.proofs.Common.{length, take, ◌∙◌, ap, subst, arith, take_all}
use Rattle.std.specs.List.{All}
use Rattle.std.proofs.lemmas.List.Elements.{All-more, All-weaker}
use Rattle.mls_tree_cells.specs.Cells.{CellList}
use Rattle.mls_tree_cells.specs.Parts.{IsOpen}
use Rattle.mls_tree_cells.specs.declared.changes.Change.{Change}
use Rattle.mls_tree_cells.proofs.parts.Parts.own_chunks.Goals as goal

pub own_chunk-requires : goal.own_chunk-requires
own_chunk-requires c =
    let e = ap (λ (r : CellList). length r.nodes) c.loop-change.invariant.cells in
    let lt = c.requires c.loop-change.change-index c.change-item.result c.loop-change-test.true in
    let same = ap (λ (d : Change). d.place) c.change-item.is in
    omega arith

pub loop-change-preserved : goal.loop-change-preserved
loop-change-preserved c =
    let old = c.loop-change.self.shares in
    let new = c.own_chunk.new.self.shares in
    let k = c.loop-change.change-index in
    record {
      cells = c.own_chunk.ensures.cells ∙ c.loop-change.invariant.cells;
      own =
          All-more (λ (d : Change). IsOpen new d.place) c.args.changes.now k c.change-item.result c.loop-change-test.true
          (All-weaker (λ (d : Change). IsOpen old d.place) (λ (d : Change). IsOpen new d.place) (λ d. c.in_ok-own_chunk.ensures.others d.place) (take k c.args.changes.now) c.loop-change.invariant.own)
          (subst (λ (d : Change). IsOpen new d.place) c.change-item.is c.in_ok-own_chunk.ensures.own);
    }

pub returns-clause-own : goal.returns-clause-own
returns-clause-own c =
    subst (All (λ (d : Change). IsOpen c.loop-change.self.shares d.place)) (take_all c.loop-change.change-index c.args.changes.now c.loop-change-test.false) c.loop-change.invariant.own

pub returns-in_err-own_chunk-clause-cells : goal.returns-in_err-own_chunk-clause-cells
returns-in_err-own_chunk-clause-cells c = c.own_chunk.ensures.cells ∙ c.loop-change.invariant.cells
