use Rattle.std.proofs.Common.{[], ◌∷◌, ◌++◌, sym, ◌∙◌, ap, arith, append-nil, append_assoc}
use Rattle.std.specs.Vec.Iter.{into_iter_items}
use Rattle.std.proofs.lemmas.List.{nil_from_length}
use Rattle.mls_tree_cells.specs.Cells.{CellList}
use Rattle.mls_tree_cells.proofs.CellLaws.{made_ends, made_is, none_made, more_made}
use Rattle.mls_tree_cells.proofs.cells.Cells.from_slots.Goals as goal

pub loop-slot-init : goal.loop-slot-init
loop-slot-init c =
    let items = c.into_iter-slot-iterator.ensures.into_iter_gives.0 in
    record {
      nodes = ap (λ (r : CellList). r.nodes ++ into_iter_items c.into_iter-slot-iterator.result) c.in_ok-parts.ensures ∙ items;
      hashes = none_made c.in_ok-parts.parts.cells c.in_ok-parts.ensures;
    }

pub loop-slot-preserved : goal.loop-slot-preserved
loop-slot-preserved c =
    let items = c.in-Some.ensures.steps.0 in
    let adds = c.in_ok-push.ensures.ok in
    let old = c.loop-slot.parts.cells in
    let rest = into_iter_items c.next.new.self in
    record {
      nodes =
          ap (λ ns. ns ++ rest) adds.nodes
          ∙ append_assoc old.nodes (c.in-Some.slot ∷ []) rest
          ∙ sym (ap (λ ns. old.nodes ++ ns) items)
          ∙ c.loop-slot.invariant.nodes;
      hashes = more_made old c.push.new.self.cells c.in-Some.slot adds c.loop-slot.invariant.hashes;
    }

pub invariant_of-result : goal.invariant_of-result
invariant_of-result c =
    let it = c.loop-slot.slot-iterator in
    let ok = it.rest.ok.0 in
    let end = c.in-None.ensures.steps.0 in
    let none = nil_from_length (into_iter_items it) (omega arith) in
    let all = sym (append-nil c.loop-slot.parts.cells.nodes) ∙ sym (ap (λ ns. c.loop-slot.parts.cells.nodes ++ ns) none) ∙ c.loop-slot.invariant.nodes in
    let size = c.args.slots.ok.0 in
    let long = c.len-len.ensures in
    made_ends c.len-len.result c.loop-slot.parts.cells c.args.slots.items (omega arith) all c.loop-slot.invariant.hashes

pub returns : goal.returns
returns c =
    let it = c.loop-slot.slot-iterator in
    let ok = it.rest.ok.0 in
    let end = c.in-None.ensures.steps.0 in
    let none = nil_from_length (into_iter_items it) (omega arith) in
    let all = sym (append-nil c.loop-slot.parts.cells.nodes) ∙ sym (ap (λ ns. c.loop-slot.parts.cells.nodes ++ ns) none) ∙ c.loop-slot.invariant.nodes in
    let size = c.args.slots.ok.0 in
    let long = c.len-len.ensures in
    made_is c.len-len.result c.loop-slot.parts.cells c.args.slots.items (omega arith) all c.loop-slot.invariant.hashes
