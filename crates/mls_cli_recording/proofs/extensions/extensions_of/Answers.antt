use Rattle.std.proofs.Common.{◌∙◌}
use Rattle.mls_cli_recording.specs.Calls.{extension_view}
use Rattle.mls_cli_recording.specs.Recording.{extension_in}
use Rattle.mls_cli_json.proofs.ListSteps.{grown}
use Rattle.mls_cli_recording.proofs.extensions.extensions_of.Goals as goal

pub loop-value-preserved : goal.loop-value-preserved
loop-value-preserved c =
    grown extension_view extension_in c.args.values.now c.loop-value.value-index c.value-item.result c.loop-value.all_hex _ c.loop-value.list.items c.push_found.new.list.items
    c.in_ok-found.found c.loop-value-test.true c.value-item.is c.in_ok-found.ensures c.in_ok-all_hex.ensures.hex c.in_ok-all_hex.ensures.items
    ∙ c.loop-value.invariant
