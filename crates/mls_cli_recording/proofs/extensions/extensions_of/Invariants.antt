use Rattle.std.proofs.Common.{◌≡◌, drop, map, option_map}
use Rattle.serde_json.specs.View.{items_view}
use Rattle.mls_cli_recording.specs.Calls.{extension_view}
use Rattle.mls_cli_json.specs.Lists.{each_of}
use Rattle.mls_cli_recording.specs.Recording.{extension_in}
use Rattle.mls_cli_json.proofs.ListSteps.{joined}
use Rattle.mls_cli_recording.proofs.extensions.extensions_of.Given as goal

abbrev pub invariant-loop-value : goal.invariant-loop-value
invariant-loop-value l =
    option_map (joined l.all_hex (map extension_view l.list.items)) (each_of extension_in (items_view (drop l.value-index l.values)))
    ≡ each_of extension_in (items_view l.values)
