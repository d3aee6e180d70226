use Rattle.std.proofs.Common.{List, sym, subst, ◌+◌}
use Rattle.mls_model.specs.declared.item.Item.{Item}
use Rattle.mls_model.specs.World.{item_of}
use Rattle.mls_world_plain.proofs.Listing.{AreItems, items_start, items_next, items_fail, items_end}
use Rattle.mls_world_plain.proofs.EarlyChecks.{past_none, past_next, first_refused, list_passes}
use Rattle.mls_tree.proofs.RefusalLaws.{not_refused}
use Rattle.mls_world_plain.proofs.world.PlainWorld.items_of.Goals as goal

pub returns-in-Err-clause-answer : goal.returns-in-Err-clause-answer
returns-in-Err-clause-answer g c = λ h. items_fail c.args.self.now c.args.items.now c.loop-item.item-index c.item-item.result _ c.loop-item.list.items c.loop-item-test.true c.item-item.is c.loop-item.invariant.items (c.in-Err.ensures.answer h)

pub returns-in-Err-clause-outright : goal.returns-in-Err-clause-outright
returns-in-Err-clause-outright g c = λ n h.
    c.in-Err.ensures.outright n (first_refused c.args.self.now c.args.items.now c.loop-item.item-index c.item-item.result n c.loop-item-test.true c.item-item.is c.loop-item.invariant.first h)

pub returns-in_err-push-in-Ok-clause-outright : goal.returns-in_err-push-in-Ok-clause-outright
returns-in_err-push-in-Ok-clause-outright g c = λ n h.
    absurd (not_refused (item_of c.args.self.now c.item-item.result) _ c.in-Ok.ensures.answer n
    (first_refused c.args.self.now c.args.items.now c.loop-item.item-index c.item-item.result n c.loop-item-test.true c.item-item.is c.loop-item.invariant.first h))

pub loop-item-init : goal.loop-item-init
loop-item-init g c = record { items = subst (λ (l : List Item). AreItems c.args.self.now c.args.items.now 0 l) (sym c.new-list.ensures.items) (items_start c.args.self.now c.args.items.now); first = past_none c.args.self.now c.args.items.now }

pub loop-item-preserved : goal.loop-item-preserved
loop-item-preserved g c = record {
  items = subst (λ (l : List Item). AreItems c.args.self.now c.args.items.now (c.loop-item.item-index + 1) l) (sym c.in_ok-push-in-Ok.ensures.items)
      (items_next c.args.self.now c.args.items.now c.loop-item.item-index c.item-item.result c.in-Ok.one c.loop-item.list.items c.loop-item-test.true c.item-item.is c.loop-item.invariant.items c.in-Ok.ensures.answer c.in-Ok.ensures.short);
  first = past_next c.args.self.now c.args.items.now c.loop-item.item-index c.item-item.result _ c.loop-item-test.true c.item-item.is c.in-Ok.ensures.answer c.loop-item.invariant.first;
}

pub returns-clause-answer : goal.returns-clause-answer
returns-clause-answer g c = items_end c.args.self.now c.args.items.now c.loop-item.item-index c.loop-item.list.items c.loop-item-test.false c.loop-item.invariant.items

pub returns-clause-outright : goal.returns-clause-outright
returns-clause-outright g c = λ n h. list_passes c.args.self.now c.args.items.now _ n (returns-clause-answer g c) h

pub returns-clause-short : goal.returns-clause-short
returns-clause-short g c = c.loop-item.invariant.items.short
