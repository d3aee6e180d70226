use Rattle.std.proofs.Common.{◌≡◌, drop, option_map}
use Rattle.serde_json.specs.View.{items_view}
use Rattle.mls_cli_recording.specs.Calls.{texts_view}
use Rattle.mls_cli_recording.specs.Recording.{texts_in}
use Rattle.mls_cli_recording.proofs.TextSteps.{behind}
use Rattle.mls_cli_recording.proofs.reading.texts_in.Given as goal

abbrev pub invariant-loop-value : goal.invariant-loop-value
invariant-loop-value l =
    option_map (behind (texts_view l.texts)) (texts_in (items_view (drop l.value-index l.values))) ≡ texts_in (items_view l.values)
