use Rattle.std.proofs.Common.{◌≡◌, drop}
use Rattle.serde_json.specs.View.{items_view}
use Rattle.mls_cli_json_place.specs.Lists.{all_items}
use Rattle.mls_cli_json_place.proofs.lists.are_right.Given as goal

abbrev pub invariant-loop-value : goal.invariant-loop-value
invariant-loop-value g l = all_items g.S.Shape.right (items_view (drop l.value-index l.values)) ≡ all_items g.S.Shape.right (items_view l.values)
