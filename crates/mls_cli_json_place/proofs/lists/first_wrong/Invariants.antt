use Rattle.std.proofs.Common.{◌≡◌, drop}
use Rattle.serde_json.specs.View.{items_view}
use Rattle.mls_cli_json_place.specs.Lists.{first_wrong}
use Rattle.mls_cli_json_place.proofs.lists.first_wrong.Given as goal

abbrev pub invariant-loop-index : goal.invariant-loop-index
invariant-loop-index g l = first_wrong (g.E.Entry.wrong l.entry) l.index (items_view (drop l.index l.values)) ≡ first_wrong (g.E.Entry.wrong l.entry) 0 (items_view l.values)
