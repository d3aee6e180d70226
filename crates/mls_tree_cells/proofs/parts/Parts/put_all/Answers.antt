use Rattle.std.proofs.Common.{◌<◌, length, sym, ◌∙◌, ap, subst, arith, length-set}
use Rattle.std.specs.List.{All}
use Rattle.std.specs.Vec.Iter.{into_iter_items}
use Rattle.std.proofs.lemmas.List.{nil_from_length}
use Rattle.std.proofs.lemmas.List.Elements.{All-head, All-tail}
use Rattle.mls_tree_cells.specs.Cells.{put_nodes, drop_hashes_at}
use Rattle.mls_tree_cells.specs.Parts.{IsOpen}
use Rattle.mls_tree_cells.specs.declared.changes.Change.{Change}
use Rattle.mls_tree_cells.proofs.parts.Parts.put_all.Goals as goal

pub loop-change-init : goal.loop-change-init
loop-change-init c =
    let items = c.into_iter-change-iterator.ensures.into_iter_gives.0 in
    record {
      nodes = ap (λ cs. put_nodes cs c.args.self.now.cells.nodes) items;
      hashes = ap (λ cs. drop_hashes_at cs c.args.self.now.cells.hashes) items;
      within = subst (All (λ (d : Change). d.place < length c.args.self.now.cells.nodes)) (sym items) c.requires.within;
      own = subst (All (λ (d : Change). IsOpen c.args.self.now.shares d.place)) (sym items) c.requires.own;
    }

pub put-requires-clause-within : goal.put-requires-clause-within
put-requires-clause-within c =
    All-head (λ (d : Change). d.place < length c.loop-change.self.cells.nodes) c.in-Some.change (into_iter_items c.next.new.self)
    (subst (All (λ (d : Change). d.place < length c.loop-change.self.cells.nodes)) c.in-Some.ensures.steps.0 c.loop-change.invariant.within)

pub put-requires-clause-own : goal.put-requires-clause-own
put-requires-clause-own c =
    All-head (λ (d : Change). IsOpen c.loop-change.self.shares d.place) c.in-Some.change (into_iter_items c.next.new.self)
    (subst (All (λ (d : Change). IsOpen c.loop-change.self.shares d.place)) c.in-Some.ensures.steps.0 c.loop-change.invariant.own)

pub loop-change-preserved : goal.loop-change-preserved
loop-change-preserved c =
    let x = c.in-Some.change in
    let rest = into_iter_items c.next.new.self in
    let old = c.loop-change.self in
    let items = c.in-Some.ensures.steps.0 in
    let sets = c.put.ensures.cells in
    let size = ap length sets.nodes ∙ length-set old.cells.nodes x.place x.slot in
    record {
      nodes = ap (put_nodes rest) sets.nodes ∙ sym (ap (λ cs. put_nodes cs old.cells.nodes) items) ∙ c.loop-change.invariant.nodes;
      hashes = ap (drop_hashes_at rest) sets.hashes ∙ sym (ap (λ cs. drop_hashes_at cs old.cells.hashes) items) ∙ c.loop-change.invariant.hashes;
      within =
          subst (λ n. All (λ (d : Change). d.place < n) rest) (sym size)
          (All-tail (λ (d : Change). d.place < length old.cells.nodes) x rest (subst (All (λ (d : Change). d.place < length old.cells.nodes)) items c.loop-change.invariant.within));
      own =
          subst (λ bs. All (λ (d : Change). IsOpen bs d.place) rest) (sym c.put.ensures.shares)
          (All-tail (λ (d : Change). IsOpen old.shares d.place) x rest (subst (All (λ (d : Change). IsOpen old.shares d.place)) items c.loop-change.invariant.own));
    }

pub returns : goal.returns
returns c =
    let it = c.loop-change.change-iterator in
    let ok = it.rest.ok.0 in
    let end = c.in-None.ensures.steps.0 in
    let none = nil_from_length (into_iter_items it) (omega arith) in
    record {
      nodes = sym (ap (λ cs. put_nodes cs c.loop-change.self.cells.nodes) none) ∙ c.loop-change.invariant.nodes;
      hashes = sym (ap (λ cs. drop_hashes_at cs c.loop-change.self.cells.hashes) none) ∙ c.loop-change.invariant.hashes;
    }
