use Rattle.std.proofs.Common.{◌≡◌, map, take}
use Rattle.mls_model.specs.Make.{list_item_of}
use Rattle.mls_member.proofs.commit_items.list_items.Given as goal

abbrev pub invariant-loop-item : goal.invariant-loop-item
invariant-loop-item l = l.list.items ≡ map list_item_of (take l.item-index l.items)
