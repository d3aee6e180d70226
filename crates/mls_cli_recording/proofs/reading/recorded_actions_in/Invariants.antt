use Rattle.std.proofs.Common.{◌≡◌, drop, map, option_map}
use Rattle.serde_json.specs.View.{items_view}
use Rattle.mls_cli_recording.specs.Calls.{recorded_view}
use Rattle.mls_cli_json.specs.Lists.{each_of}
use Rattle.mls_cli_recording.specs.Recording.{recorded_in}
use Rattle.mls_cli_json.proofs.ListSteps.{joined}
use Rattle.mls_cli_recording.proofs.reading.recorded_actions_in.Given as goal

abbrev pub invariant-loop-value : goal.invariant-loop-value
invariant-loop-value l =
    option_map (joined l.all_hex (map recorded_view l.list.items)) (each_of (recorded_in l.version) (items_view (drop l.value-index l.values)))
    ≡ each_of (recorded_in l.version) (items_view l.values)
